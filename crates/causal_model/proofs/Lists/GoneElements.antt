-- Which elements are gone when a message has come: those that were, and those that an entry which goes from the log takes out.
use Rattle.std.proofs.Common.{◌≡◌, ℕ, Bool, true, false, not, ◌&&◌, ◌||◌, All, Contains, IsTrue, [], ◌∷◌, ◌++◌, get_or, refl, sym, ap, subst, ◌∙◌, inl, inr, if◌then◌else◌}
use Rattle.std.specs.List.{filter, list_any}
use Rattle.std.proofs.lemmas.Bool.{and_parts, and_from, and_right, both_ways, cond-true, false≢true, or_cases, or_left, or_right}
use Rattle.std.proofs.lemmas.List.Elements.{All-contains, All-map, Contains-append_left, Contains-append_right, Contains-append_cases, Contains-get_or, Contains-push, Contains-push_cases, filter_passes}
use Rattle.op_base.specs.Object.{same_object}
use Rattle.op_base.specs.declared.message.Message.{Message}
use Rattle.op_base.specs.declared.name.Kind.TheVariants as kinds
use Rattle.op_base.specs.declared.name.ObjectId.{ObjectId}
use Rattle.op_base.specs.declared.operation.Act.{Act}
use Rattle.op_base.specs.declared.operation.Act.TheVariants.{Clear, Del}
use Rattle.op_base.specs.declared.operation.Op.{Op}
use Rattle.op_base.specs.declared.operation.Op.TheVariants as op
use Rattle.op_base.specs.declared.tag.ElementId.{ElementId}
use Rattle.causal_model.specs.Acts.{acts_on}
use Rattle.causal_model.specs.Covering.{keeps_act, covers_act, store_keeps, store_covers}
use Rattle.causal_model.specs.Elements.{takes_out, element_of, is_deleted}
use Rattle.causal_model.specs.History.{History, Event, events, events_from, events_in, epoch_of, with_message, is_before, is_history, is_act_on}
use Rattle.causal_model.specs.KeptElements.{is_gone}
use Rattle.causal_model.specs.Laws.Events.{present_event}
use Rattle.causal_model.specs.ListSteps.{takes}
use Rattle.causal_model.specs.Log.{is_kept, is_covered_by, is_uncovered, log_of, stripped_of}
use Rattle.causal_model.specs.Order.{happened_before}
use Rattle.causal_model.specs.Settled.{is_stable_event}
use Rattle.causal_model.specs.Stability.{stable_vector, is_stable}
use Rattle.causal_model.proofs.Cells.CellsOfOneMore.{stable_event_stays}
use Rattle.causal_model.proofs.Theory.Elements.{Contains-map, item_from_list_any, list_any-from_item, list_any-from_none, same_tests}
use Rattle.causal_model.proofs.Events.Events.{event_of, events_of_one_more}
use Rattle.causal_model.proofs.Theory.Members.{member_here, member_of_filter, member_from_filter}
use Rattle.causal_model.proofs.Answers.Rules.{object_from_same}
use Rattle.causal_model.proofs.Cells.SettledCells.{past_is_stable, present_is_stable}
use Rattle.causal_model.proofs.Delivery.Stripped.{pruned_of, each_stripped}

-- what takes an element of a list out is logged, and nothing covers it
keeps_taking : (id : ElementId) (act : Act) → takes_out id act ≡ true → keeps_act kinds.List act ≡ true
keeps_taking id (Del other) t = refl
keeps_taking id Clear t = refl
keeps_taking id act t = absurd (false≢true t)

taking_is_kept : (object : ObjectId) (id : ElementId) (o : Op) → object.kind ≡ kinds.List → acts_on object (takes_out id) o ≡ true → (is_kept store_keeps o ≡ true) × ((later : Op) → is_covered_by store_covers o later ≡ false)
taking_is_kept object id op.NoOp is t = absurd (false≢true t)
taking_is_kept object id (op.Update u) is t =
    let both = and_parts (same_object u.object object) (takes_out id u.act) t in
    let kind : u.object.kind ≡ kinds.List = ap (λ (o : ObjectId). o.kind) (object_from_same u.object object both.0) ∙ is in
    (subst (λ k. keeps_act k u.act ≡ true) (sym kind) (keeps_taking id u.act both.1), covers kind) where
      covers : u.object.kind ≡ kinds.List → (later : Op) → is_covered_by store_covers (op.Update u) later ≡ false
      covers kind op.NoOp = refl
      covers kind (op.Update v) = and_right _ _ (subst (λ k. covers_act k v.act u.act ≡ false) (sym kind) refl)

module _ (h : History) (object : ObjectId) (is_list : object.kind ≡ kinds.List) where
  -- a message takes an element out where its event does
  pub takes_is : (d : Message) (e : Event) → takes object (epoch_of h) d (element_of e) ≡ (is_act_on object (takes_out (element_of e)) (event_of (epoch_of h) d) && is_before e (event_of (epoch_of h) d))
  takes_is d e = refl

  -- an event that was there and isn't stable is one of the present epoch
  pub unstable_is_present : (d : Event) → Contains (events h) d → is_stable_event h d ≡ false → (a : Message) × (Contains h.present.messages a × (event_of (epoch_of h) a ≡ d))
  unstable_is_present d there fresh = elim (Contains-append_cases (events_from 0 h.past) (events_in (epoch_of h) h.present.messages) d there) [
    | inl past ↦ absurd (false≢true (sym fresh ∙ All-contains (λ e. is_stable_event h e ≡ true) (events_from 0 h.past) d (past_is_stable h) past))
    | inr present ↦ All-contains (λ e. (a : Message) × (Contains h.present.messages a × (event_of (epoch_of h) a ≡ e))) (events_in (epoch_of h) h.present.messages) d
        (All-map (λ e. (a : Message) × (Contains h.present.messages a × (event_of (epoch_of h) a ≡ e))) (event_of (epoch_of h)) h.present.messages (λ i a l. (get_or h.present.messages i a, (Contains-get_or h.present.messages i a l, refl)))) present
  ]

  uncovered : (id : ElementId) (a : Message) → acts_on object (takes_out id) a.op ≡ true → is_uncovered store_covers h.present.messages a ≡ true
  uncovered id a takes_it = ap not (list_any-from_none (λ later. is_covered_by store_covers a.op later.op && happened_before a later) h.present.messages (λ later there covered.
      both_ways (is_covered_by store_covers a.op later.op) ((taking_is_kept object id a.op is_list takes_it).1 later.op) (and_parts (is_covered_by store_covers a.op later.op) (happened_before a later) covered).0))

  -- what takes an element out and isn't stable is logged
  pub old_in_log : (id : ElementId) (a : Message) → Contains h.present.messages a → acts_on object (takes_out id) a.op ≡ true → is_stable_event h (event_of (epoch_of h) a) ≡ false → Contains (log_of h) a
  old_in_log id a there takes_it fresh =
      member_of_filter (λ e. is_kept store_keeps e.op && is_uncovered store_covers h.present.messages e && not (is_stable (stable_vector h.present.n h.present.me h.present.messages) e)) h.present.messages a there
      (and_from _ _ (and_from _ _ (taking_is_kept object id a.op is_list takes_it).0 (uncovered id a takes_it)) (ap not (sym (present_is_stable h a) ∙ fresh)))

  -- an element was taken out where it is gone, or an entry of the log takes it out
  pub deleted_is : (e : Event) → is_deleted object (events h) e ≡ (is_gone h object e || list_any (λ d. takes object (epoch_of h) d (element_of e)) (log_of h))
  deleted_is e = same_tests (is_deleted object (events h) e) (is_gone h object e || list_any (λ d. takes object (epoch_of h) d (element_of e)) (log_of h))
      (λ t. let found = item_from_list_any test (events h) t in by found.0 (is_stable_event h found.0) refl found.1.0 found.1.1)
      (λ t. elim (or_cases (is_gone h object e) (list_any (λ d. takes object (epoch_of h) d (element_of e)) (log_of h)) t) [
        | inl gone ↦
            let found = item_from_list_any test (filter (is_stable_event h) (events h)) gone in
            list_any-from_item test (events h) found.0 (member_from_filter (is_stable_event h) (events h) found.0 found.1.0) found.1.1
        | inr logged ↦
            let found = item_from_list_any (λ d. takes object (epoch_of h) d (element_of e)) (log_of h) logged in
            list_any-from_item test (events h) (event_of (epoch_of h) found.0)
            (Contains-append_right (events_from 0 h.past) (events_in (epoch_of h) h.present.messages) (event_of (epoch_of h) found.0) (Contains-map (event_of (epoch_of h)) h.present.messages found.0 (member_from_filter _ h.present.messages found.0 found.1.0))) found.1.1
      ]) where
        test : Event → Bool
        test later = is_act_on object (takes_out (element_of e)) later && is_before e later

        by : (d : Event) (stable : Bool) → is_stable_event h d ≡ stable → Contains (events h) d → test d ≡ true → (is_gone h object e || list_any (λ d. takes object (epoch_of h) d (element_of e)) (log_of h)) ≡ true
        by d true is there passes = or_left _ _ (list_any-from_item test (filter (is_stable_event h) (events h)) d (member_of_filter (is_stable_event h) (events h) d there is) passes)
        by d false is there passes =
            let a = unstable_is_present d there is in
            let back : d ≡ event_of (epoch_of h) a.0 = sym a.1.1 in
            let takes_it : takes object (epoch_of h) a.0 (element_of e) ≡ true = subst (λ (v : Event). test v ≡ true) back passes in
            or_right _ _ (list_any-from_item (λ d. takes object (epoch_of h) d (element_of e)) (log_of h) a.0 (old_in_log (element_of e) a.0 a.1.0 (and_parts _ _ takes_it).0 (subst (λ v. is_stable_event h v ≡ false) back is)) takes_it)

module _ (w : ℕ) (h : History) (m : Message) (t : IsTrue (is_history w (with_message h m))) (object : ObjectId) (is_list : object.kind ≡ kinds.List) where
  abbrev x : Event
  x = present_event h m

  in_stripped : (a : Message) → Contains (pruned_of h m) a → is_stable_event (with_message h m) (event_of (epoch_of h) a) ≡ true → Contains (stripped_of h m) a
  in_stripped a there stable = member_of_filter (is_stable (stable_vector h.present.n h.present.me (h.present.messages ++ m ∷ []))) (pruned_of h m) a there (sym (present_is_stable (with_message h m) a) ∙ stable)

  old_in_pruned : (id : ElementId) (a : Message) → Contains h.present.messages a → acts_on object (takes_out id) a.op ≡ true → is_stable_event h (event_of (epoch_of h) a) ≡ false → Contains (pruned_of h m) a
  old_in_pruned id a there takes_it fresh =
      let kept = taking_is_kept object id a.op is_list takes_it in
      Contains-append_left (filter (λ e. not (is_covered_by store_covers e.op m.op && happened_before e m)) (log_of h)) (if is_kept store_keeps m.op then m ∷ [] else []) a
      (member_of_filter (λ e. not (is_covered_by store_covers e.op m.op && happened_before e m)) (log_of h) a (old_in_log h object is_list id a there takes_it fresh) (ap (λ b. not (b && happened_before a m)) (kept.1 m.op)))

  new_in_pruned : is_kept store_keeps m.op ≡ true → Contains (pruned_of h m) m
  new_in_pruned keeps = Contains-append_right (filter (λ e. not (is_covered_by store_covers e.op m.op && happened_before e m)) (log_of h)) (if is_kept store_keeps m.op then m ∷ [] else []) m
      (subst (λ l. Contains l m) (sym (cond-true (is_kept store_keeps m.op) (m ∷ []) [] keeps)) (member_here m []))

  abbrev Old : Event → Bool
  Old e = is_gone h object e

  abbrev New : Event → Bool
  New e = list_any (λ d. takes object (epoch_of h) d (element_of e)) (stripped_of h m)

  stays : (d : Event) → Contains (events h) d → is_stable_event h d ≡ true → is_stable_event (with_message h m) d ≡ true
  stays d there stable = (All-contains (λ e. is_stable_event h e ≡ true → (is_stable_event (with_message h m) e ≡ true) × (is_before e (present_event h m) ≡ true)) (events h) d (stable_event_stays w h m t) there stable).0

  forth : (e : Event) → is_gone (with_message h m) object e ≡ true → (Old e || New e) ≡ true
  forth e gone =
      let test : Event → Bool = λ later. is_act_on object (takes_out (element_of e)) later && is_before e later in
      let found = item_from_list_any test (filter (is_stable_event (with_message h m)) (events (with_message h m))) gone in
      let d = found.0 in
      let stable : is_stable_event (with_message h m) d ≡ true = All-contains (λ v. is_stable_event (with_message h m) v ≡ true) (filter (is_stable_event (with_message h m)) (events (with_message h m))) d (filter_passes (is_stable_event (with_message h m)) (events (with_message h m))) found.1.0 in
      let there : Contains (events h ++ x ∷ []) d = subst (λ l. Contains l d) (events_of_one_more h m) (member_from_filter (is_stable_event (with_message h m)) (events (with_message h m)) d found.1.0) in
      let both = and_parts (is_act_on object (takes_out (element_of e)) d) (is_before e d) found.1.1 in
      elim (Contains-push_cases (events h) x d there) [
        | inl old ↦ by d (is_stable_event h d) refl old stable both.0 found.1.1
        | inr new ↦
            let is_x : is_stable_event (with_message h m) x ≡ true = subst (λ v. is_stable_event (with_message h m) v ≡ true) (sym new) stable in
            let acts : acts_on object (takes_out (element_of e)) m.op ≡ true = subst (λ (v : Event). is_act_on object (takes_out (element_of e)) v ≡ true) (sym new) both.0 in
            or_right _ _ (list_any-from_item (λ d. takes object (epoch_of h) d (element_of e)) (stripped_of h m) m (in_stripped m (new_in_pruned (taking_is_kept object (element_of e) m.op is_list acts).0) is_x) (subst (λ (v : Event). test v ≡ true) (sym new) found.1.1))
      ] where
        by : (d : Event) (was : Bool) → is_stable_event h d ≡ was → Contains (events h) d → is_stable_event (with_message h m) d ≡ true → is_act_on object (takes_out (element_of e)) d ≡ true → (is_act_on object (takes_out (element_of e)) d && is_before e d) ≡ true → (Old e || New e) ≡ true
        by d true was old stable acts both = or_left _ _ (list_any-from_item (λ later. is_act_on object (takes_out (element_of e)) later && is_before e later) (filter (is_stable_event h) (events h)) d (member_of_filter (is_stable_event h) (events h) d old was) both)
        by d false was old stable acts both =
            let a = unstable_is_present h object is_list d old was in
            let back : d ≡ event_of (epoch_of h) a.0 = sym a.1.1 in
            or_right _ _ (list_any-from_item (λ d. takes object (epoch_of h) d (element_of e)) (stripped_of h m) a.0
            (in_stripped a.0 (old_in_pruned (element_of e) a.0 a.1.0 (subst (λ (v : Event). is_act_on object (takes_out (element_of e)) v ≡ true) back acts) (subst (λ v. is_stable_event h v ≡ false) back was)) (subst (λ v. is_stable_event (with_message h m) v ≡ true) back stable))
            (subst (λ (v : Event). (is_act_on object (takes_out (element_of e)) v && is_before e v) ≡ true) back both))

  abbrev IsThere : Message → Type 0
  IsThere a = Contains (events (with_message h m)) (event_of (epoch_of h) a)

  back : (e : Event) → (Old e || New e) ≡ true → is_gone (with_message h m) object e ≡ true
  back e either = elim (or_cases (Old e) (New e) either) [
    | inl old ↦
        let found = item_from_list_any test (filter (is_stable_event h) (events h)) old in
        let there = member_from_filter (is_stable_event h) (events h) found.0 found.1.0 in
        let was = All-contains (λ v. is_stable_event h v ≡ true) (filter (is_stable_event h) (events h)) found.0 (filter_passes (is_stable_event h) (events h)) found.1.0 in
        gone found.0 (subst (λ l. Contains l found.0) (sym (events_of_one_more h m)) (Contains-append_left (events h) (x ∷ []) found.0 there)) (stays found.0 there was) found.1.1
    | inr new ↦
        let found = item_from_list_any (λ d. takes object (epoch_of h) d (element_of e)) (stripped_of h m) new in
        let a = found.0 in
        let now : Message → Bool = is_stable (stable_vector h.present.n h.present.me (h.present.messages ++ m ∷ [])) in
        let stable : now a ≡ true = All-contains (λ v. now v ≡ true) (stripped_of h m) a (filter_passes now (pruned_of h m)) found.1.0 in
        let there = (All-contains (λ v. (is_kept store_keeps v.op ≡ true) × IsThere v) (stripped_of h m) a (each_stripped IsThere h m each last) found.1.0).1 in
        gone (event_of (epoch_of h) a) there (present_is_stable (with_message h m) a ∙ stable) found.1.1
  ] where
    test : Event → Bool
    test later = is_act_on object (takes_out (element_of e)) later && is_before e later

    gone : (d : Event) → Contains (events (with_message h m)) d → is_stable_event (with_message h m) d ≡ true → test d ≡ true → is_gone (with_message h m) object e ≡ true
    gone d there stable passes = list_any-from_item test (filter (is_stable_event (with_message h m)) (events (with_message h m))) d (member_of_filter (is_stable_event (with_message h m)) (events (with_message h m)) d there stable) passes

    each : All IsThere h.present.messages
    each i a l = subst (λ es. Contains es (event_of (epoch_of h) (get_or h.present.messages i a))) (sym (events_of_one_more h m)) (Contains-append_left (events h) (x ∷ []) (event_of (epoch_of h) (get_or h.present.messages i a))
        (Contains-append_right (events_from 0 h.past) (events_in (epoch_of h) h.present.messages) (event_of (epoch_of h) (get_or h.present.messages i a)) (Contains-map (event_of (epoch_of h)) h.present.messages (get_or h.present.messages i a) (Contains-get_or h.present.messages i a l))))

    last : IsThere m
    last = subst (λ es. Contains es x) (sym (events_of_one_more h m)) (Contains-push (events h) x)

  -- an element is gone now where it was, or where what goes from the log takes it out
  pub gone_of_one_more : (e : Event) → is_gone (with_message h m) object e ≡ (is_gone h object e || list_any (λ d. takes object (epoch_of h) d (element_of e)) (stripped_of h m))
  gone_of_one_more e = same_tests (is_gone (with_message h m) object e) (Old e || New e) (forth e) (back e)
