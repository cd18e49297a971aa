-- What is kept of a list when a message has come: its element is put in where its place is open, and the entries that go from
-- the log take elements out.
use Rattle.std.proofs.Common.{◌≡◌, ◌⊎◌, ℕ, ◌+◌, Bool, true, false, not, ◌&&◌, ◌==◌, All, AllPairs, Contains, IsTrue, List, [], ◌∷◌, ◌++◌, length, map, get_or, refl, sym, ap, subst, ◌∙◌, inl, inr, if◌then◌else◌, ◌||◌, take, arith}
use Rattle.std.specs.Prelude.{Option, Some, None, fold}
use Rattle.std.specs.List.{filter, find, list_any}
use Rattle.std.specs.Option.{option_map, option_and_then}
use Rattle.std.specs.Cmp.Lexicographic.{bytes_decides}
use Rattle.std.proofs.lemmas.Bool.{and_left, and_parts, and_from, both_ways, eqb-true, eq-eqb, false≢true, not-true, false_from_ne_true}
use Rattle.std.proofs.lemmas.List.Elements.{All-contains, All-filter, All-map, Contains-append_right, Contains-get_or, filter_passes}
use Rattle.std.proofs.lemmas.List.Kept.{AllPairs-filter}
use Rattle.std.proofs.lemmas.Option.{same_Some, none-some}
use Rattle.op_base.specs.Name.{same_text}
use Rattle.op_base.specs.Object.{same_object}
use Rattle.op_base.specs.declared.message.Message.{Message}
use Rattle.op_base.specs.declared.name.ObjectId.{ObjectId}
use Rattle.op_base.specs.declared.name.Kind.TheVariants as kinds
use Rattle.op_base.specs.declared.operation.Act.{Act}
use Rattle.op_base.specs.declared.operation.Act.TheVariants.{Ins}
use Rattle.op_base.specs.declared.operation.Op.{Op}
use Rattle.op_base.specs.declared.operation.Op.TheVariants as op
use Rattle.op_base.specs.declared.tag.ElementId.{ElementId}
use Rattle.causal_model.specs.Acts.{acts_on}
use Rattle.causal_model.specs.Elements.{Element, element_of, same_element, puts_at, is_head, is_behind, takes_out, value_put, inserted_value, is_deleted, past_of, parent_of, rank_of, path_below, path_of, put_element, put_event, elements_of}
use Rattle.causal_model.specs.History.{History, Event, events, events_from, events_in, epoch_of, with_message, is_before, is_history, is_act_on}
use Rattle.causal_model.specs.KeptElements.{KeptElement, begins_with, is_gone, kept_elements}
use Rattle.causal_model.specs.Journal.{regrouped}
use Rattle.causal_model.specs.Laws.Events.{present_event}
use Rattle.causal_model.specs.Laws.Lists.{RegroupKeepsLists}
use Rattle.causal_model.specs.ListSteps.{had_seen, takes, is_open, insertion_of, insertion_in, new_element, at_depth, put_down, put_behind, pruned, kept_put, kept_with, kept_without, kept_moved}
use Rattle.causal_model.specs.Log.{log_of, stripped_of}
use Rattle.causal_model.specs.Order.{happened_before}
use Rattle.causal_model.specs.Settled.{is_stable_event}
use Rattle.causal_model.proofs.Cells.CellsOfOneMore.{stable_event_stays}
use Rattle.causal_model.proofs.Theory.Elements.{Contains-map, item_from_list_any, list_any-from_item, list_any-from_none, AllPairs-map}
use Rattle.causal_model.proofs.Events.Events.{event_of, events_of_one_more, events_are_apart, later_are_not_before, before_within}
use Rattle.causal_model.proofs.Lists.GoneElements.{deleted_is, gone_of_one_more, unstable_is_present, old_in_log}
use Rattle.causal_model.proofs.Events.Histories.{history_before}
use Rattle.causal_model.proofs.Lists.KeptLists.{ClosedBehind, seen, keeps, kept_in, keeps_above, keeps_itself, kept_closed, kept_is_pruned}
use Rattle.causal_model.proofs.Lists.ListHistories.{element_is, is_element, element_placed, elements_in_order, elements_placed, elements_early, elements_closed}
use Rattle.causal_model.proofs.Lists.ListPlaces.{IsPlaced, placed_down, placed_behind}
use Rattle.causal_model.proofs.Lists.ListsOfOneMore.{of_last, list_of_one_more, take-all, without_one, without_all, fold_or, kept_with_one}
use Rattle.causal_model.proofs.Theory.Members.{member_of_filter, member_from_filter}
use Rattle.causal_model.proofs.Lists.PathOrder.{Before, never}
use Rattle.causal_model.proofs.Lists.Paths.{parent_is}
use Rattle.causal_model.proofs.Events.Regrouping.{regroup_keeps_events, regroup_keeps_items}
use Rattle.causal_model.proofs.Lists.Ranks.{Ranked, ranks_differ}
use Rattle.causal_model.proofs.Lists.SameLists.{Ahead, paths_differ, put_there, find_is, find_none, one_of_id, one_id}

-- ---- ids

pub one_element : (a b : ElementId) → same_element a b ≡ true → a ≡ b
one_element a b t =
    let first = and_parts (a.epoch == b.epoch) ((a.origin == b.origin) && (a.seq == b.seq)) t in
    let second = and_parts (a.origin == b.origin) (a.seq == b.seq) first.1 in
    λ i. record { epoch = eqb-true a.epoch b.epoch first.0 i; origin = eqb-true a.origin b.origin second.0 i; seq = eqb-true a.seq b.seq second.1 i }

pub element_itself : (a : ElementId) → same_element a a ≡ true
element_itself a = and_from _ _ (eq-eqb a.epoch a.epoch refl) (and_from _ _ (eq-eqb a.origin a.origin refl) (eq-eqb a.seq a.seq refl))

-- ---- insertions

no_insertion : (object : ObjectId) (o : Op) → insertion_in object o ≡ None → (passes : Option ElementId → Bool) → acts_on object (puts_at passes) o ≡ false
no_insertion object op.NoOp none passes = refl
no_insertion object (op.Update u) none passes = by (same_object u.object object) u.act none where
  of_act : (act : Act) → insertion_of act ≡ None → puts_at passes act ≡ false
  of_act (Ins v place) t = absurd (none-some (v, place) (sym t))
  of_act act t = refl

  by : (same : Bool) (act : Act) → (if same then insertion_of act else None) ≡ None → (same && puts_at passes act) ≡ false
  by true act t = of_act act t
  by false act t = refl

record Inserts (object : ObjectId) (o : Op) (v : List ℕ) (place : Option ElementId) : Type 0 where
  acts : (passes : Option ElementId → Bool) → acts_on object (puts_at passes) o ≡ passes place
  value : inserted_value o ≡ v

some_insertion : (object : ObjectId) (o : Op) (put : List ℕ × Option ElementId) → insertion_in object o ≡ Some put → Inserts object o put.0 put.1
some_insertion object op.NoOp put some = absurd (none-some put some)
some_insertion object (op.Update u) put some = by (same_object u.object object) refl u.act refl some where
  by : (same : Bool) → same_object u.object object ≡ same → (act : Act) → u.act ≡ act → (if same then insertion_of act else None) ≡ Some put → Inserts object (op.Update u) put.0 put.1
  by false is act is_act t = absurd (none-some put t)
  by true is (Ins v place) is_act t =
      let same : (v, place) ≡ put = same_Some (v, place) put t in
      record {
        acts = λ passes. (λ i. is i && puts_at passes (is_act i)) ∙ ap (λ (p : List ℕ × Option ElementId). passes p.1) same;
        value = ap value_put is_act ∙ ap (λ (p : List ℕ × Option ElementId). p.0) same;
      }
  by true is act is_act t = absurd (none-some put t)

-- ---- paths that begin with one of one step more

begins_shorter : (z p : List (List ℕ)) (r : List ℕ) → begins_with z (p ++ r ∷ []) ≡ true → (z ≡ p ++ r ∷ []) ⊎ (begins_with z p ≡ true)
begins_shorter [] p r t = inr refl
begins_shorter (x ∷ []) [] r t = inl (λ i. (bytes_decides x r).0 (and_parts (same_text x r) true t).0 i ∷ [])
begins_shorter (x ∷ y ∷ ys) [] r t = absurd (false≢true (and_parts (same_text x r) false t).1)
begins_shorter (x ∷ xs) (y ∷ ys) r t =
    let both = and_parts (same_text x y) (begins_with xs (ys ++ r ∷ [])) t in
    elim (begins_shorter xs ys r both.1) [
      | inl same ↦ inl (λ i. (bytes_decides x y).0 both.0 i ∷ same i)
      | inr begins ↦ inr (and_from _ _ both.0 begins)
    ]

-- the depth that an element had doesn't matter where it is put behind another
behind_any : (id : ElementId) (e : KeptElement) (depth : ℕ) (l : List KeptElement) → put_behind id (at_depth e depth) l ≡ put_behind id e l
behind_any id e depth [] = refl
behind_any id e depth (other ∷ others) = ap (λ (rest : List KeptElement). if same_element other.id id then other ∷ put_down (at_depth e (other.depth + 1)) others else other ∷ rest) (behind_any id e depth others)

module _ (w : ℕ) (h : History) (m : Message) (t : IsTrue (is_history w (with_message h m))) (object : ObjectId) (is_list : object.kind ≡ kinds.List) where
  abbrev x : Event
  x = present_event h m

  abbrev es : List Event
  es = events h

  abbrev was : List Element
  was = elements_of object (events h)

  abbrev gone : Element → Bool
  gone e = is_gone h object e.event

  before_it : IsTrue (is_history w h)
  before_it = history_before w h m t

  -- ---- what the new event is to those that were there

  not_after : All (λ e. is_before x e ≡ false) es
  not_after = of_last (λ a b. is_before b a ≡ false) es x (subst (AllPairs (λ a b. is_before b a ≡ false)) (events_of_one_more h m) (later_are_not_before w (with_message h m) t))

  other_rank : All (λ e. Ranked e x) es
  other_rank = of_last Ranked es x (subst (AllPairs Ranked) (events_of_one_more h m) (ranks_differ w (with_message h m) t))

  fresh : is_gone h object x ≡ false
  fresh = list_any-from_none (λ later. is_act_on object (takes_out (element_of x)) later && is_before x later) (filter (is_stable_event h) es) (λ d there passes.
      both_ways (is_before x d) (All-contains (λ e. is_before x e ≡ false) es d not_after (member_from_filter (is_stable_event h) es d there)) (and_parts (is_act_on object (takes_out (element_of x)) d) (is_before x d) passes).1)

  stable_before : (d : Event) → Contains es d → is_stable_event h d ≡ true → is_before d x ≡ true
  stable_before d there stable = (All-contains (λ e. is_stable_event h e ≡ true → (is_stable_event (with_message h m) e ≡ true) × (is_before e x ≡ true)) es d (stable_event_stays w h m t) there stable).1

  -- ---- where the place is an id

  module _ (id : ElementId) (names : (passes : Option ElementId → Bool) → is_act_on object (puts_at passes) x ≡ passes (Some id)) where
    -- an element behind which the new one is put
    record IsParent (p : Element) : Type 0 where
      there : Contains was p
      named : element_of p.event ≡ id
      alive : gone p ≡ false
      early : is_before p.event x ≡ true
      free : list_any (λ d. takes object (epoch_of h) d id && happened_before d m) (log_of h) ≡ false

    abbrev takes_away : Event → Event → Bool
    takes_away p d = is_act_on object (takes_out (element_of p)) d && is_before p d

    -- whether an event is named by the new one, and was not taken out then
    abbrev can_be : Event → Bool
    can_be p = is_act_on object (puts_at (is_behind (element_of p))) x && not (is_deleted object (past_of es x) p)

    not_taken : (p : Element) → IsParent p → is_deleted object (past_of es x) p.event ≡ false
    not_taken p is = list_any-from_none (takes_away p.event) (past_of es x) (λ d there passes. by d (is_stable_event h d) refl (member_from_filter (λ e. is_before e x) es d there) (All-contains (λ e. is_before e x ≡ true) (past_of es x) d (filter_passes (λ e. is_before e x) es) there) passes) where
      by : (d : Event) (stable : Bool) → is_stable_event h d ≡ stable → Contains es d → is_before d x ≡ true → takes_away p.event d ≡ true → ⊥
      by d true stable there early passes = both_ways (gone p) is.alive (list_any-from_item (takes_away p.event) (filter (is_stable_event h) es) d (member_of_filter (is_stable_event h) es d there stable) passes)
      by d false unstable there early passes =
          let a = unstable_is_present h object is_list d there unstable in
          let back : d ≡ event_of (epoch_of h) a.0 = sym a.1.1 in
          let takes_it : takes object (epoch_of h) a.0 (element_of p.event) ≡ true = subst (λ (v : Event). takes_away p.event v ≡ true) back passes in
          let logged = old_in_log h object is_list (element_of p.event) a.0 a.1.0 (and_parts _ _ takes_it).0 (subst (λ v. is_stable_event h v ≡ false) back unstable) in
          both_ways (list_any (λ d. takes object (epoch_of h) d id && happened_before d m) (log_of h)) is.free
          (list_any-from_item (λ d. takes object (epoch_of h) d id && happened_before d m) (log_of h) a.0 logged
          (and_from _ _ (subst (λ v. takes object (epoch_of h) a.0 v ≡ true) is.named takes_it) (sym (before_within (epoch_of h) a.0 m) ∙ subst (λ (v : Event). is_before v x ≡ true) back early)))

    -- such an element is the parent
    parent_found : (p : Element) → IsParent p → parent_of object es x ≡ Some p.event
    parent_found p is = by (find can_be (past_of es x)) refl where
      there : Contains (past_of es x) p.event
      there = member_of_filter (λ e. is_before e x) es p.event (element_is w h before_it object p is.there).0 is.early

      passes : can_be p.event ≡ true
      passes = and_from _ _ (names (is_behind (element_of p.event)) ∙ subst (λ v. same_element id v ≡ true) (sym is.named) (element_itself id)) (ap not (not_taken p is))

      by : (o : Option Event) → find can_be (past_of es x) ≡ o → find can_be (past_of es x) ≡ Some p.event
      by None none = absurd (both_ways (list_any can_be (past_of es x)) (find_none can_be (past_of es x) none) (list_any-from_item can_be (past_of es x) p.event there passes))
      by (Some q) some =
          let found = find_is can_be (past_of es x) q some in
          let same : id ≡ element_of q = one_element id (element_of q) (sym (names (is_behind (element_of q))) ∙ (and_parts _ _ found.1).0) in
          let ids : element_of q ≡ element_of p.event = sym same ∙ sym is.named in
          some ∙ ap Some (one_of_id es q p.event (events_are_apart w h before_it) (member_from_filter (λ e. is_before e x) es q found.0) (element_is w h before_it object p is.there).0
          (subst (λ v. same_element (element_of q) v ≡ true) ids (element_itself (element_of q))) (subst (λ v. same_element v (element_of q) ≡ true) ids (element_itself (element_of q))))

    path_of_parent : (p : Element) → IsParent p → path_below (path_of object es) object es x ≡ Some (p.path ++ rank_of x ∷ [])
    path_of_parent p is =
        ap (λ b. if b then Some (rank_of x ∷ []) else option_map (λ q. q ++ rank_of x ∷ []) (option_and_then (path_of object es) (parent_of object es x))) (names is_head)
        ∙ ap (λ o. option_map (λ q. q ++ rank_of x ∷ []) (option_and_then (path_of object es) o)) (parent_found p is)
        ∙ ap (option_map (λ q. q ++ rank_of x ∷ [])) (element_is w h before_it object p is.there).1

    -- where the new event has a path, it has such a parent
    has_parent : (path : List (List ℕ)) → path_below (path_of object es) object es x ≡ Some path → (p : Element) × IsParent p
    has_parent path some = by (parent_of object es x) refl (sym (ap (λ b. if b then Some (rank_of x ∷ []) else option_map (λ q. q ++ rank_of x ∷ []) (option_and_then (path_of object es) (parent_of object es x))) (names is_head)) ∙ some) where
      parent : (p : Event) → parent_of object es x ≡ Some p → (above : List (List ℕ)) → path_of object es p ≡ Some above → (p : Element) × IsParent p
      parent p found above its =
          let place = parent_is object es x p found in
          let passes = (find_is can_be (past_of es x) p found).1 in
          let parts = and_parts (is_act_on object (puts_at (is_behind (element_of p))) x) (not (is_deleted object (past_of es x) p)) passes in
          let kept : is_deleted object (past_of es x) p ≡ false = not-true (is_deleted object (past_of es x) p) parts.1 in
          let same : id ≡ element_of p = one_element id (element_of p) (sym (names (is_behind (element_of p))) ∙ parts.0) in
          let e : Element = record { event = p; path = above } in (
            e,
            record {
              there = is_element w h before_it object e (place.0, its);
              named = sym same;
              alive = list_any-from_none (takes_away p) (filter (is_stable_event h) es) (λ d there taken.
                  let in_es = member_from_filter (is_stable_event h) es d there in
                  let early = stable_before d in_es (All-contains (λ v. is_stable_event h v ≡ true) (filter (is_stable_event h) es) d (filter_passes (is_stable_event h) es) there) in
                  both_ways (is_deleted object (past_of es x) p) kept (list_any-from_item (takes_away p) (past_of es x) d (member_of_filter (λ e. is_before e x) es d in_es early) taken));
              early = place.1;
              free = list_any-from_none (λ d. takes object (epoch_of h) d id && happened_before d m) (log_of h) (λ a there taken.
                  let both = and_parts (takes object (epoch_of h) a id) (happened_before a m) taken in
                  let in_es : Contains es (event_of (epoch_of h) a) = Contains-append_right (events_from 0 h.past) (events_in (epoch_of h) h.present.messages) (event_of (epoch_of h) a) (Contains-map (event_of (epoch_of h)) h.present.messages a (in_messages a there)) in
                  both_ways (is_deleted object (past_of es x) p) kept (list_any-from_item (takes_away p) (past_of es x) (event_of (epoch_of h) a) (member_of_filter (λ e. is_before e x) es (event_of (epoch_of h) a) in_es (before_within (epoch_of h) a m ∙ both.1)) (subst (λ v. takes object (epoch_of h) a v ≡ true) same both.0)));
            },
          ) where
            in_messages : (a : Message) → Contains (log_of h) a → Contains h.present.messages a
            in_messages a there = member_from_filter _ h.present.messages a there

      by : (o : Option Event) → parent_of object es x ≡ o → option_map (λ q. q ++ rank_of x ∷ []) (option_and_then (path_of object es) o) ≡ Some path → (p : Element) × IsParent p
      by None found is = absurd (none-some path is)
      by (Some p) found is = at (path_of object es p) refl is where
        at : (o : Option (List (List ℕ))) → path_of object es p ≡ o → option_map (λ q. q ++ rank_of x ∷ []) o ≡ Some path → (p : Element) × IsParent p
        at None its none = absurd (none-some path none)
        at (Some above) its same = parent p found above its

    -- ---- the test of the kept elements says the same

    abbrev opens : Bool
    opens = is_open object (epoch_of h) (log_of h) m (kept_elements h object) (Some id)

    open_for : (p : Element) → IsParent p → opens ≡ true
    open_for p is =
        let kept : Contains (kept_in gone was) p = member_of_filter (keeps gone was) was p is.there (keeps_itself gone was p is.there (ap not is.alive)) in
        and_from _ _ (and_from _ _
        (list_any-from_item (λ e. same_element e.id id && not e.gone) (kept_elements h object) (seen gone p) (Contains-map (seen gone) (kept_in gone was) p kept) (and_from _ _ (subst (λ v. same_element v id ≡ true) (sym is.named) (element_itself id)) (ap not is.alive)))
        (subst (λ v. had_seen (epoch_of h) m v ≡ true) is.named is.early)) (ap not is.free)

    abbrev From : KeptElement → Type 0
    From k = (p : Element) × (Contains (kept_in gone was) p × (seen gone p ≡ k))

    parent_of_open : opens ≡ true → (p : Element) × IsParent p
    parent_of_open is =
        let front = and_parts (list_any (λ e. same_element e.id id && not e.gone) (kept_elements h object) && had_seen (epoch_of h) m id) (not (list_any (λ d. takes object (epoch_of h) d id && happened_before d m) (log_of h))) is in
        let both = and_parts (list_any (λ e. same_element e.id id && not e.gone) (kept_elements h object)) (had_seen (epoch_of h) m id) front.0 in
        let found = item_from_list_any (λ e. same_element e.id id && not e.gone) (kept_elements h object) both.0 in
        let p = All-contains From (kept_elements h object) found.0 from found.1.0 in
        let passes : (same_element (element_of p.0.event) id && not (gone p.0)) ≡ true = ap (λ (e : KeptElement). same_element e.id id && not e.gone) p.1.1 ∙ found.1.1 in
        let parts = and_parts (same_element (element_of p.0.event) id) (not (gone p.0)) passes in
        let named = one_element (element_of p.0.event) id parts.0 in (
          p.0,
          record {
            there = member_from_filter (keeps gone was) was p.0 p.1.0;
            named = named;
            alive = not-true (gone p.0) parts.1;
            early = subst (λ v. had_seen (epoch_of h) m v ≡ true) (sym named) both.1;
            free = not-true (list_any (λ d. takes object (epoch_of h) d id && happened_before d m) (log_of h)) front.1;
          },
        ) where
          from : All From (kept_elements h object)
          from = All-map From (seen gone) (kept_in gone was) (λ i d l. (get_or (kept_in gone was) i d, (Contains-get_or (kept_in gone was) i d l, refl)))

  -- ---- the elements with the new one

  abbrev now : List Element
  now = elements_of object (events (with_message h m))

  abbrev kept : List Element
  kept = kept_in gone was

  abbrev new_path : Option (List (List ℕ))
  new_path = path_below (path_of object es) object es x

  kept_sorted : AllPairs Ahead kept
  kept_sorted = AllPairs-filter Ahead (keeps gone was) was (elements_in_order w h before_it object)

  kept_early : All (λ e. Before [] e.path) kept
  kept_early = All-filter (keeps gone was) (λ e. Before [] e.path) was (elements_early w h before_it object)

  kept_are_closed : ClosedBehind [] kept
  kept_are_closed = kept_closed gone [] was (elements_closed w h before_it object)

  kept_placed : All IsPlaced kept
  kept_placed = All-filter (keeps gone was) IsPlaced was (elements_placed w h before_it object)

  ranks_apart : All (λ e. rank_of e.event ≡ rank_of x → ⊥) was
  ranks_apart k d within = All-contains (λ e. Ranked e x) es (get_or was k d).event other_rank (element_is w h before_it object (get_or was k d) (Contains-get_or was k d within)).0

  kept_apart : All (λ e. rank_of e.event ≡ rank_of x → ⊥) kept
  kept_apart = All-filter (keeps gone was) (λ e. rank_of e.event ≡ rank_of x → ⊥) was ranks_apart

  -- where the new event has a path
  module _ (above : List (List ℕ)) (path_is : new_path ≡ Some (above ++ rank_of x ∷ [])) where
    abbrev new : Element
    new = record { event = x; path = above ++ rank_of x ∷ [] }

    now_put : now ≡ put_element new was
    now_put = list_of_one_more w h m object t ∙ ap (λ o. put_event x o was) path_is

    new_placed : IsPlaced new
    new_placed = element_placed w (with_message h m) t object new (subst (λ l. Contains l new) (sym now_put) (put_there new was))

    paths_apart : All (λ e. e.path ≡ above ++ rank_of x ∷ [] → ⊥) was
    paths_apart k d within =
        let e = get_or was k d in
        let there = Contains-get_or was k d within in
        paths_differ e.event x e.path (above ++ rank_of x ∷ []) (element_placed w h before_it object e there).ends (record { front = above; is = refl }) (ranks_apart k d within)

    kept_now : ((z : Element) → Contains was z → begins_with z.path (above ++ rank_of x ∷ []) ≡ true → keeps gone was z ≡ true) → kept_in gone now ≡ put_element new kept
    kept_now over = ap (kept_in gone) now_put ∙ kept_with_one gone new was (elements_in_order w h before_it object) paths_apart fresh over

    seen_new : (v : List ℕ) → inserted_value m.op ≡ v → seen gone new ≡ at_depth (new_element (epoch_of h) m v) (length (above ++ rank_of x ∷ []))
    seen_new v value = λ i. record { id = element_of x; rank = rank_of x; depth = length (above ++ rank_of x ∷ []); value = value i; gone = fresh i }

  -- put at the head
  at_head : (v : List ℕ) → Inserts object m.op v None → put_down (new_element (epoch_of h) m v) (kept_elements h object) ≡ map (seen gone) (kept_in gone now)
  at_head v inserts = sym (
      ap (map (seen gone)) (kept_now [] path_is over)
      ∙ placed_down gone (new [] path_is) [] refl (new_placed [] path_is).up kept kept_sorted kept_early kept_are_closed kept_placed kept_apart
      ∙ ap (λ (e : KeptElement). put_down e (kept_elements h object)) (seen_new [] path_is v inserts.value)) where
        path_is : new_path ≡ Some (rank_of x ∷ [])
        path_is = ap (λ b. if b then Some (rank_of x ∷ []) else option_map (λ q. q ++ rank_of x ∷ []) (option_and_then (path_of object es) (parent_of object es x))) (inserts.acts is_head)

        none : (p : List (List ℕ)) → Before [] p → begins_with p [] ≡ true → ⊥
        none [] early begins = absurd early
        none (y ∷ ys) early begins = absurd (false≢true begins)

        over : (z : Element) → Contains was z → begins_with z.path (rank_of x ∷ []) ≡ true → keeps gone was z ≡ true
        over z there begins = elim (begins_shorter z.path [] (rank_of x) begins) [
          | inl same ↦ absurd (All-contains (λ e. e.path ≡ rank_of x ∷ [] → ⊥) was z (paths_apart [] path_is) there same)
          | inr shorter ↦ absurd (none z.path (All-contains (λ e. Before [] e.path) was z (elements_early w h before_it object) there) shorter)
        ]

  -- put behind an element
  at_element : (v : List ℕ) (id : ElementId) (inserts : Inserts object m.op v (Some id)) (p : Element) → IsParent id inserts.acts p
      → put_behind id (new_element (epoch_of h) m v) (kept_elements h object) ≡ map (seen gone) (kept_in gone now)
  at_element v id inserts p is = sym (
      ap (map (seen gone)) (kept_now p.path path_is over)
      ∙ placed_behind gone (new p.path path_is) p refl (new_placed p.path path_is).up [] kept kept_sorted kept_early kept_are_closed kept_placed kept_apart ids (element_itself (element_of p.event)) p_kept
      ∙ (λ i. put_behind (is.named i) (seen_new p.path path_is v inserts.value i) (kept_elements h object))
      ∙ behind_any id (new_element (epoch_of h) m v) (length (p.path ++ rank_of x ∷ [])) (kept_elements h object)) where
        path_is : new_path ≡ Some (p.path ++ rank_of x ∷ [])
        path_is = path_of_parent id inserts.acts p is

        p_keeps : keeps gone was p ≡ true
        p_keeps = keeps_itself gone was p is.there (ap not is.alive)

        p_kept : Contains kept p
        p_kept = member_of_filter (keeps gone was) was p is.there p_keeps

        over : (z : Element) → Contains was z → begins_with z.path (p.path ++ rank_of x ∷ []) ≡ true → keeps gone was z ≡ true
        over z there begins = elim (begins_shorter z.path p.path (rank_of x) begins) [
          | inl same ↦ absurd (All-contains (λ e. e.path ≡ p.path ++ rank_of x ∷ [] → ⊥) was z (paths_apart p.path path_is) there same)
          | inr shorter ↦ keeps_above gone was z p shorter p_keeps
        ]

        ids : (e : Element) → Contains kept e → same_element (element_of e.event) (element_of p.event) ≡ true → e.path ≡ p.path
        ids e there same =
            let here = element_is w h before_it object e (member_from_filter (keeps gone was) was e there) in
            let its = element_is w h before_it object p is.there in
            let id_is : element_of e.event ≡ element_of p.event = one_element (element_of e.event) (element_of p.event) same in
            let event : e.event ≡ p.event = one_of_id es e.event p.event (events_are_apart w h before_it) here.0 its.0 same (subst (λ v. same_element v (element_of e.event) ≡ true) id_is (element_itself (element_of e.event))) in
            same_Some e.path p.path (sym here.1 ∙ ap (path_of object es) event ∙ its.1)

  -- where the new event has no path
  no_path : new_path ≡ None → kept_elements h object ≡ map (seen gone) (kept_in gone now)
  no_path none = sym (ap (λ l. map (seen gone) (kept_in gone l)) (list_of_one_more w h m object t ∙ ap (λ o. put_event x o was) none))

  no_new : ((passes : Option ElementId → Bool) → is_act_on object (puts_at passes) x ≡ false) → new_path ≡ None
  no_new none =
      ap (λ b. if b then Some (rank_of x ∷ []) else option_map (λ q. q ++ rank_of x ∷ []) (option_and_then (path_of object es) (parent_of object es x))) (none is_head)
      ∙ ap (λ o. option_map (λ q. q ++ rank_of x ∷ []) (option_and_then (path_of object es) o)) (by (find named (past_of es x)) refl) where
        named : Event → Bool
        named p = is_act_on object (puts_at (is_behind (element_of p))) x && not (is_deleted object (past_of es x) p)

        by : (o : Option Event) → find (λ p. is_act_on object (puts_at (is_behind (element_of p))) x && not (is_deleted object (past_of es x) p)) (past_of es x) ≡ o → parent_of object es x ≡ None
        by None is = is
        by (Some q) is =
            let passes = (find_is (λ p. is_act_on object (puts_at (is_behind (element_of p))) x && not (is_deleted object (past_of es x) p)) (past_of es x) q is).1 in
            absurd (both_ways (is_act_on object (puts_at (is_behind (element_of q))) x) (none (is_behind (element_of q))) (and_parts _ _ passes).0)

  -- what the message puts in, whatever it does
  put_in : kept_with object (epoch_of h) (log_of h) m (kept_elements h object) ≡ map (seen gone) (kept_in gone now)
  put_in = by (insertion_in object m.op) refl where
    behind : (v : List ℕ) (id : ElementId) (inserts : Inserts object m.op v (Some id)) (b : Bool) → is_open object (epoch_of h) (log_of h) m (kept_elements h object) (Some id) ≡ b
        → (if b then put_behind id (new_element (epoch_of h) m v) (kept_elements h object) else kept_elements h object) ≡ map (seen gone) (kept_in gone now)
    behind v id inserts true is = let p = parent_of_open id inserts.acts is in at_element v id inserts p.0 p.1
    behind v id inserts false is = no_path (closed new_path refl) where
      closed : (o : Option (List (List ℕ))) → new_path ≡ o → new_path ≡ None
      closed None none = none
      closed (Some path) some = let p = has_parent id inserts.acts path some in absurd (false≢true (sym is ∙ open_for id inserts.acts p.0 p.1))

    at_place : (v : List ℕ) (place : Option ElementId) → Inserts object m.op v place → kept_put object (epoch_of h) (log_of h) m (kept_elements h object) (Some (v, place)) ≡ map (seen gone) (kept_in gone now)
    at_place v None inserts = at_head v inserts
    at_place v (Some id) inserts = behind v id inserts (is_open object (epoch_of h) (log_of h) m (kept_elements h object) (Some id)) refl

    by : (o : Option (List ℕ × Option ElementId)) → insertion_in object m.op ≡ o → kept_put object (epoch_of h) (log_of h) m (kept_elements h object) o ≡ map (seen gone) (kept_in gone now)
    by None none = no_path (no_new (no_insertion object m.op none))
    by (Some put) some = at_place put.0 put.1 (some_insertion object m.op put some)

  -- what is kept when so many entries have gone from the log
  abbrev gone_after : List Message → Element → Bool
  gone_after ds e = fold (λ b d. b || takes object (epoch_of h) d (element_of e.event)) (gone e) ds

  moved_is : (k : ℕ) → kept_moved h m k object ≡ map (seen (gone_after (take k (stripped_of h m)))) (kept_in (gone_after (take k (stripped_of h m))) now)
  moved_is k =
      ap (λ start. fold (λ kept d. kept_without object (epoch_of h) d kept) start (take k (stripped_of h m))) put_in
      ∙ without_all object (epoch_of h) now (elements_in_order w (with_message h m) t object) (elements_early w (with_message h m) t object) (elements_closed w (with_message h m) t object) (take k (stripped_of h m)) gone

  -- so what is kept when the message has come
  pub kept_of_one_more : kept_moved h m (length (stripped_of h m)) object ≡ kept_elements (with_message h m) object
  kept_of_one_more = moved_is (length (stripped_of h m)) ∙ (λ i. map (seen (λ e. end e i)) (kept_in (λ e. end e i) now)) where
    end : (e : Element) → gone_after (take (length (stripped_of h m)) (stripped_of h m)) e ≡ is_gone (with_message h m) object e.event
    end e =
        ap (λ ds. gone_after ds e) (take-all (stripped_of h m))
        ∙ fold_or (λ d. takes object (epoch_of h) d (element_of e.event)) (gone e) (stripped_of h m) ∙ sym (gone_of_one_more w h m t object is_list e.event)

  -- and it is pruned on the way
  pub kept_stays_pruned : (k : ℕ) → pruned (kept_moved h m k object) ≡ kept_moved h m k object
  kept_stays_pruned k =
      ap pruned (moved_is k)
      ∙ kept_is_pruned (λ e. fold (λ b d. b || takes object (epoch_of h) d (element_of e.event)) (is_gone h object e.event) (take k (stripped_of h m))) now (elements_in_order w (with_message h m) t object) (elements_early w (with_message h m) t object) (elements_closed w (with_message h m) t object)
      ∙ sym (moved_is k)

  -- no two elements have one id
  ids_differ : AllPairs (λ (a b : Element). same_element (element_of a.event) (element_of b.event) ≡ false) now
  ids_differ i j d less within =
      let a : Element = get_or now i d in
      let b : Element = get_or now j d in
      let here = element_is w (with_message h m) t object a (Contains-get_or now i d (omega (arith, less, within))) in
      let there = element_is w (with_message h m) t object b (Contains-get_or now j d within) in
      false_from_ne_true (same_element (element_of a.event) (element_of b.event)) (λ same.
      let id_is : element_of a.event ≡ element_of b.event = one_element (element_of a.event) (element_of b.event) same in
      let event : a.event ≡ b.event = one_of_id (events (with_message h m)) a.event b.event (events_are_apart w (with_message h m) t) here.0 there.0 same (subst (λ v. same_element v (element_of a.event) ≡ true) id_is (element_itself (element_of a.event))) in
      let path : a.path ≡ b.path = same_Some a.path b.path (sym here.1 ∙ ap (path_of object (events (with_message h m))) event ∙ there.1) in
      never a.path (subst (Before a.path) (sym path) (elements_in_order w (with_message h m) t object i j d less within)))

  pub kept_ids_differ : (k : ℕ) → AllPairs (λ (a b : KeptElement). same_element a.id b.id ≡ false) (kept_moved h m k object)
  kept_ids_differ k =
      let g : Element → Bool = λ e. fold (λ b d. b || takes object (epoch_of h) d (element_of e.event)) (is_gone h object e.event) (take k (stripped_of h m)) in
      subst (AllPairs (λ (a b : KeptElement). same_element a.id b.id ≡ false)) (sym (moved_is k))
      (AllPairs-map (λ (a b : KeptElement). same_element a.id b.id ≡ false) (seen g) (kept_in g now) (AllPairs-filter (λ (a b : Element). same_element (element_of a.event) (element_of b.event) ≡ false) (keeps g now) now ids_differ))

  -- a message of another object moves nothing
  pub others_move_nothing : (k : ℕ) (d : Message) → acts_on object (λ act. true) d.op ≡ false → kept_without object (epoch_of h) d (kept_moved h m k object) ≡ kept_moved h m k object
  others_move_nothing k d other =
      ap (kept_without object (epoch_of h) d) (moved_is k)
      ∙ without_one object (epoch_of h) now (elements_in_order w (with_message h m) t object) (elements_early w (with_message h m) t object) (elements_closed w (with_message h m) t object) was_gone d
      ∙ (λ i. map (seen (λ e. same e i)) (kept_in (λ e. same e i) now))
      ∙ sym (moved_is k) where
        was_gone : Element → Bool
        was_gone e = fold (λ b d. b || takes object (epoch_of h) d (element_of e.event)) (is_gone h object e.event) (take k (stripped_of h m))

        none : (o : Op) (id : ElementId) → acts_on object (λ act. true) o ≡ false → acts_on object (takes_out id) o ≡ false
        none op.NoOp id t = refl
        none (op.Update u) id t = by (same_object u.object object) t where
          by : (b : Bool) → (b && true) ≡ false → (b && takes_out id u.act) ≡ false
          by true t = absurd (false≢true (sym t))
          by false t = refl

        bare : (b : Bool) → (b || false) ≡ b
        bare true = refl
        bare false = refl

        same : (e : Element) → (was_gone e || takes object (epoch_of h) d (element_of e.event)) ≡ was_gone e
        same e = ap (λ b. was_gone e || b) (and_left _ _ (none d.op (element_of e.event) other)) ∙ bare (was_gone e)

-- ---- ids

pub new_id_is_fresh : (w : ℕ) (h : History) (m : Message) (object : ObjectId) → IsTrue (is_history w (with_message h m)) → All (λ e. same_element e.id (element_of (present_event h m)) ≡ false) (kept_elements h object)
new_id_is_fresh w h m object t =
    let x = present_event h m in
    let gone : Element → Bool = λ e. is_gone h object e.event in
    let was = elements_of object (events h) in
    let apart : All (λ e. one_id e x ≡ false) (events h) = of_last (λ a b. one_id a b ≡ false) (events h) x (subst (AllPairs (λ a b. one_id a b ≡ false)) (events_of_one_more h m) (events_are_apart w (with_message h m) t)) in
    All-map (λ (e : KeptElement). same_element e.id (element_of x) ≡ false) (seen gone) (kept_in gone was) (λ k d within.
    let e = get_or (kept_in gone was) k d in
    All-contains (λ e. one_id e x ≡ false) (events h) e.event apart (element_is w h (history_before w h m t) object e (member_from_filter (keeps gone was) was e (Contains-get_or (kept_in gone was) k d within))).0)

-- ---- the end of an epoch

pub regroup_keeps_lists : RegroupKeepsLists
regroup_keeps_lists n me s object stable is_list =
    let next : History = (regrouped n me s).history in
    let kept = regroup_keeps_events n me s in
    let log = (regroup_keeps_items n me s stable).0 in
    let one : (e : Event) → is_gone next object e ≡ is_gone s.history object e = λ e.
    sym (alone next e kept.2) ∙ ap (λ es. is_deleted object es e) kept.0 ∙ alone s.history e log in
    λ i. map (seen (λ e. one e.event i)) (kept_in (λ e. one e.event i) (elements_of object (kept.0 i))) where
      bare : (b : Bool) → (b || false) ≡ b
      bare true = refl
      bare false = refl

      alone : (h : History) (e : Event) → log_of h ≡ [] → is_deleted object (events h) e ≡ is_gone h object e
      alone h e none = deleted_is h object is_list e ∙ ap (λ log. is_gone h object e || list_any (λ d. takes object (epoch_of h) d (element_of e)) log) none ∙ bare (is_gone h object e)
