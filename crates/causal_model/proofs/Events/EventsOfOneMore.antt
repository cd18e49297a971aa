-- What one message more makes of settled and pending events, and of counters.
use Rattle.std.proofs.Common.{◌≡◌, ℕ, Bool, true, false, not, ◌&&◌, ◌||◌, pos, ◌+ℤ◌, IsTrue, All, AllPairs, List, [], ◌∷◌, ◌++◌, length, get_or, map, refl, sym, ap, subst, ◌∙◌, if◌then◌else◌, arith}
use Rattle.std.specs.List.{filter, list_any}
use Rattle.std.proofs.Math.IntN.{+ℤ_idr}
use Rattle.std.proofs.Math.Seq.{get_or-append_seam}
use Rattle.std.proofs.lemmas.Bool.{and_right, cond-true, false≢true, or_left}
use Rattle.std.proofs.lemmas.List.{map-append, get_or_append_left, length_push}
use Rattle.std.proofs.lemmas.List.Elements.{All-weaker, filter-append}
use Rattle.std.proofs.lemmas.List.Folds.{list_any-append, list_any_none}
use Rattle.std.proofs.lemmas.List.Sums.{fold_push}
use Rattle.op_base.specs.Object.{same_object}
use Rattle.op_base.specs.declared.message.Message.{Message}
use Rattle.op_base.specs.declared.name.ObjectId.{ObjectId}
use Rattle.op_base.specs.declared.operation.Act.{Act}
use Rattle.op_base.specs.declared.operation.Act.TheVariants.{Clear, Inc, Dec}
use Rattle.op_base.specs.declared.operation.Op.{Op}
use Rattle.op_base.specs.declared.operation.Op.TheVariants as op
use Rattle.causal_model.specs.Acts.{acts_on, is_clear, amount_of, share_of}
use Rattle.causal_model.specs.Covering.{store_covers}
use Rattle.causal_model.specs.History.{History, Event, events, with_message, is_before, is_history, is_act_on}
use Rattle.causal_model.specs.Laws.Events.{present_event}
use Rattle.causal_model.specs.Log.{is_covered_by}
use Rattle.causal_model.specs.Query.{is_live, total_of, counter_sum, rcounter_sum}
use Rattle.causal_model.specs.Settled.{is_stable_event, is_uncovered_event, has_settled, has_pending}
use Rattle.causal_model.proofs.Events.Events.{event_never_before_itself, later_are_not_before, events_of_one_more, uncovered_events_of_one_more}
use Rattle.causal_model.proofs.Theory.Lists.{filter-filter}
use Rattle.causal_model.proofs.Delivery.Logs.{either_fails}

-- ---- settled and pending events

module _ (w : ℕ) (h : History) (m : Message) (object : ObjectId) (passes : Act → Bool) (t : IsTrue (is_history w (with_message h m))) where
  -- an uncovered event that does such an act and passes a test
  some_uncovered : (test : Event → Bool)
      → list_any (λ e. is_act_on object passes e && (test e && is_uncovered_event (events (with_message h m)) e)) (events (with_message h m))
      ≡ (list_any (λ e. is_act_on object passes e && (test e && (is_uncovered_event (events h) e && not (is_covered_by store_covers e.message.op m.op && is_before e (present_event h m))))) (events h)
      || (is_act_on object passes (present_event h m) && test (present_event h m)))
  some_uncovered test =
      let one_more = uncovered_events_of_one_more w h m t in
      let new = present_event h m in
      let does : (Event → Bool) → Event → Bool = λ uncovered e. is_act_on object passes e && (test e && uncovered e) in
      let now : Event → Bool = does (is_uncovered_event (events (with_message h m))) in
      ap (list_any now) (events_of_one_more h m) ∙ list_any-append now (events h) (new ∷ []) ∙ ap (λ b. list_any now (events h) || b) (newest (is_act_on object passes new) (test new) (is_uncovered_event (events (with_message h m)) new) one_more.1)
      ∙ (λ i. list_any (does (λ e. one_more.0 e i)) (events h) || (is_act_on object passes new && test new)) where
        newest : (a b c : Bool) → c ≡ true → ((a && (b && c)) || false) ≡ (a && b)
        newest false b c p = refl
        newest true false c p = refl
        newest true true c p = or_left c false p

  pub has_settled_of_one_more : has_settled (with_message h m) object passes
      ≡ (list_any (λ e. is_act_on object passes e && (is_stable_event (with_message h m) e && (is_uncovered_event (events h) e && not (is_covered_by store_covers e.message.op m.op && is_before e (present_event h m))))) (events h)
      || (is_act_on object passes (present_event h m) && is_stable_event (with_message h m) (present_event h m)))
  has_settled_of_one_more = some_uncovered (is_stable_event (with_message h m))

  pub has_pending_of_one_more : has_pending (with_message h m) object passes
      ≡ (list_any (λ e. is_act_on object passes e && (not (is_stable_event (with_message h m) e) && (is_uncovered_event (events h) e && not (is_covered_by store_covers e.message.op m.op && is_before e (present_event h m))))) (events h)
      || (is_act_on object passes (present_event h m) && not (is_stable_event (with_message h m) (present_event h m))))
  has_pending_of_one_more = some_uncovered (λ e. not (is_stable_event (with_message h m) e))

-- ---- counters

counter_sum-push : (object : ObjectId) (es : List Event) (e : Event) → counter_sum object (es ++ e ∷ []) ≡ counter_sum object es +ℤ share_of object e.message.op
counter_sum-push object es e = ap (total_of object) (map-append (λ y. y.message.op) es (e ∷ [])) ∙ fold_push (λ sum o. sum +ℤ share_of object o) (pos 0) (map (λ y. y.message.op) es) e.message.op

pub counter_sum_of_one_more : (object : ObjectId) (h : History) (m : Message) → counter_sum object (events (with_message h m)) ≡ counter_sum object (events h) +ℤ share_of object m.op
counter_sum_of_one_more object h m = ap (counter_sum object) (events_of_one_more h m) ∙ counter_sum-push object (events h) (present_event h m)

-- the new event happened before none
new_is_last : (w : ℕ) (h : History) (m : Message) → IsTrue (is_history w (with_message h m)) → All (λ e. is_before (present_event h m) e ≡ false) (events h)
new_is_last w h m t k d l =
    let es = events h in
    let new = present_event h m in
    let pairs : AllPairs (λ a b. is_before b a ≡ false) (es ++ new ∷ []) = subst (AllPairs (λ a b. is_before b a ≡ false)) (events_of_one_more h m) (later_are_not_before w (with_message h m) t) in
    let Unseen : Event → Event → Type 0 = λ e later. is_before later e ≡ false in
    subst (λ e. Unseen e new) (get_or_append_left es (new ∷ []) d k l) (subst (Unseen (get_or (es ++ new ∷ []) k d)) (get_or-append_seam es new [] d) (pairs k (length es) d l (omega (arith, length_push es new))))

module _ (w : ℕ) (object : ObjectId) (h : History) (m : Message) (t : IsTrue (is_history w (with_message h m))) where
  is_live-push : (e : Event) → is_live object (events (with_message h m)) e ≡ (is_live object (events h) e && not (is_act_on object is_clear (present_event h m) && is_before e (present_event h m)))
  is_live-push e =
      let voids : Event → Bool = λ later. is_act_on object is_clear later && is_before e later in
      ap (λ es. not (list_any voids es)) (events_of_one_more h m) ∙ ap not (list_any-append voids (events h) (present_event h m ∷ [])) ∙ either_fails (list_any voids (events h)) (voids (present_event h m))

  -- the new event is live
  last_is_live : is_live object (events (with_message h m)) (present_event h m) ≡ true
  last_is_live =
      let new = present_event h m in
      let voids : Event → Bool = λ later. is_act_on object is_clear later && is_before new later in
      let none = list_any_none voids (events h) (All-weaker (λ e. is_before new e ≡ false) (λ e. voids e ≡ false) (λ e unseen. and_right _ _ unseen) (events h) (new_is_last w h m t)) in
      is_live-push new ∙ ap (λ b. not b && not (voids new)) none ∙ ap not (and_right _ _ (event_never_before_itself new))

  -- the live events, with the new one after those that it doesn't void
  live_of_one_more : filter (is_live object (events (with_message h m))) (events (with_message h m))
      ≡ filter (λ e. not (is_act_on object is_clear (present_event h m) && is_before e (present_event h m))) (filter (is_live object (events h)) (events h)) ++ present_event h m ∷ []
  live_of_one_more =
      let new = present_event h m in
      let now : Event → Bool = is_live object (events (with_message h m)) in
      let stays : Event → Bool = λ e. not (is_act_on object is_clear new && is_before e new) in
      ap (filter now) (events_of_one_more h m) ∙ filter-append now (events h) (new ∷ []) ∙ ap (λ es. filter now (events h) ++ es) (cond-true (now new) (new ∷ []) [] last_is_live)
      ∙ ap (λ es. es ++ new ∷ []) ((λ i. filter (λ e. is_live-push e i) (events h)) ∙ sym (filter-filter (is_live object (events h)) stays (events h)))

clear_amount : (same : Bool) (a : Act) → (same && is_clear a) ≡ true → (if same then amount_of a else pos 0) ≡ pos 0
clear_amount false a t = refl
clear_amount true Clear t = refl
clear_amount true (Inc a) t = absurd (false≢true t)
clear_amount true (Dec a) t = absurd (false≢true t)
clear_amount true other t = refl

-- a clear adds nothing
clear_share : (object : ObjectId) (o : Op) → acts_on object is_clear o ≡ true → share_of object o ≡ pos 0
clear_share object op.NoOp t = refl
clear_share object (op.Update u) t = clear_amount (same_object u.object object) u.act t

pub filter_all : {X : Type 0} (xs : List X) → filter (λ x. true) xs ≡ xs
filter_all [] = refl
filter_all (x ∷ xs) = ap (λ ys. x ∷ ys) (filter_all xs)

pub rcounter_sum_of_one_more : (w : ℕ) (object : ObjectId) (h : History) (m : Message) → IsTrue (is_history w (with_message h m))
    → rcounter_sum object (events (with_message h m))
    ≡ (if is_act_on object is_clear (present_event h m) then counter_sum object (filter (λ e. not (is_before e (present_event h m))) (filter (is_live object (events h)) (events h)))
    else rcounter_sum object (events h) +ℤ share_of object m.op)
rcounter_sum_of_one_more w object h m t =
    let new = present_event h m in
    ap (counter_sum object) (live_of_one_more w object h m t) ∙ counter_sum-push object (filter (λ e. not (is_act_on object is_clear new && is_before e new)) (filter (is_live object (events h)) (events h))) new ∙ cases (is_act_on object is_clear new) (clear_share object m.op) where
      cases : (clears : Bool) → (clears ≡ true → share_of object m.op ≡ pos 0)
          → counter_sum object (filter (λ e. not (clears && is_before e (present_event h m))) (filter (is_live object (events h)) (events h))) +ℤ share_of object m.op
          ≡ (if clears then counter_sum object (filter (λ e. not (is_before e (present_event h m))) (filter (is_live object (events h)) (events h))) else rcounter_sum object (events h) +ℤ share_of object m.op)
      cases true none = ap (λ s. counter_sum object (filter (λ e. not (is_before e (present_event h m))) (filter (is_live object (events h)) (events h))) +ℤ s) (none refl) ∙ +ℤ_idr _
      cases false none = ap (λ es. counter_sum object es +ℤ share_of object m.op) (filter_all (filter (is_live object (events h)) (events h)))
