-- The counter that can be cleared, by its settled cell and the log.
use Rattle.std.proofs.Common.{◌≡◌, ℕ, IsTrue, Bool, true, false, not, ◌&&◌, All, map, refl, sym, ap, ◌∙◌, if◌then◌else◌}
use Rattle.std.specs.Prelude.{ℤ, pos, ◌+ℤ◌, None}
use Rattle.std.specs.List.{filter}
use Rattle.std.proofs.Math.IntN.{+ℤ_idl, +ℤ_idr}
use Rattle.std.proofs.lemmas.Bool.{both_ways, false_from_ne_true}
use Rattle.std.proofs.lemmas.List.Elements.{All-weaker}
use Rattle.op_base.specs.declared.message.Message.{Message}
use Rattle.op_base.specs.declared.name.Kind.TheVariants.{RCounter}
use Rattle.op_base.specs.declared.name.ObjectId.{ObjectId}
use Rattle.op_base.specs.declared.operation.Op.{Op}
use Rattle.causal_model.specs.Acts.{acts_on, share_of}
use Rattle.causal_model.specs.Covering.{store_keeps, store_covers}
use Rattle.causal_model.specs.History.{is_history, History, Event, epoch_of, events, events_from, events_in}
use Rattle.causal_model.specs.Log.{is_kept, is_uncovered, log_of}
use Rattle.causal_model.specs.Query.{rcounter_sum, total_of, counter_sum}
use Rattle.causal_model.specs.Settled.{is_stable_event, is_uncovered_event, is_settled, is_pending, object_cell, settled_cell}
use Rattle.causal_model.specs.Stability.{stable_vector, is_stable}
use Rattle.causal_model.specs.Laws.Events.{present_event}
use Rattle.causal_model.proofs.Answers.Covers.{is_amount, rcounter_keeps, share_none}
use Rattle.causal_model.proofs.Answers.Parts.{past_is_not_pending, present_is_pending, kept_is_logged, is_kept_act}
use Rattle.causal_model.proofs.Events.SameEvents.{counter_sum-sum_of}
use Rattle.causal_model.proofs.Theory.Totals.{sum_of, sum_of-append, sum_of-map, where_passes, sum_of-filter, sum_of-split, sum_of_zeros}
use Rattle.causal_model.proofs.Answers.Uncovered.{rcounter_by_uncovered}

-- ---- a counter that can be cleared

-- an operation of it that is not logged adds nothing
unlogged_adds_nothing : (object : ObjectId) → object.kind ≡ RCounter → (o : Op) → is_kept store_keeps o ≡ false → share_of object o ≡ pos 0
unlogged_adds_nothing object is o t =
    let logs = kept_is_logged object RCounter is is_amount rcounter_keeps in
    share_none object o (false_from_ne_true (acts_on object is_amount o) (λ amount. both_ways (is_kept store_keeps o) t (is_kept_act object is_amount logs o amount)))

split_share : (s u : Bool) (z : ℤ) → (if u then z else pos 0) ≡ (if s && u then z else pos 0) +ℤ (if not s && u then z else pos 0)
split_share true true z = sym (+ℤ_idr z)
split_share false true z = sym (+ℤ_idl z)
split_share true false z = refl
split_share false false z = refl

logged_share : (k u s : Bool) (z : ℤ) → (k ≡ false → z ≡ pos 0) → (if not s && u then z else pos 0) ≡ (if k && u && not s then z else pos 0)
logged_share true true true z none = refl
logged_share true true false z none = refl
logged_share true false true z none = refl
logged_share true false false z none = refl
logged_share false true true z none = refl
logged_share false true false z none = none refl
logged_share false false true z none = refl
logged_share false false false z none = refl

module _ (h : History) (object : ObjectId) (is : object.kind ≡ RCounter) where
  pending_sum : sum_of (where_passes (is_pending h) (λ e. share_of object e.message.op)) (events h) ≡ total_of object (map (λ m. m.op) (log_of h))
  pending_sum =
      let stable : Message → Bool = is_stable (stable_vector h.present.n h.present.me h.present.messages) in
      let kept : Message → Bool = λ m. is_kept store_keeps m.op && is_uncovered store_covers h.present.messages m && not (stable m) in
      let adds : Event → ℤ = where_passes (is_pending h) (λ e. share_of object e.message.op) in
      let nothing : All (λ e. adds e ≡ pos 0) (events_from 0 h.past) =
      All-weaker (λ e. is_pending h e ≡ false) (λ e. adds e ≡ pos 0) (λ e over. ap (λ b. if b then share_of object e.message.op else pos 0) over) (events_from 0 h.past) (past_is_not_pending h) in
      let same : (m : Message) → adds (present_event h m) ≡ where_passes kept (λ m. share_of object m.op) m = λ m.
      ap (λ b. if b then share_of object m.op else pos 0) (present_is_pending h m)
      ∙ logged_share (is_kept store_keeps m.op) (is_uncovered store_covers h.present.messages m) (stable m) (share_of object m.op) (unlogged_adds_nothing object is m.op) in
      sum_of-append adds (events_from 0 h.past) (events_in (epoch_of h) h.present.messages)
      ∙ ap (λ z. z +ℤ sum_of adds (events_in (epoch_of h) h.present.messages)) (sum_of_zeros adds (events_from 0 h.past) nothing) ∙ +ℤ_idl (sum_of adds (events_in (epoch_of h) h.present.messages))
      ∙ sum_of-map (present_event h) adds h.present.messages ∙ (λ i. sum_of (λ m. same m i) h.present.messages)
      ∙ sym (sum_of-filter kept (λ m. share_of object m.op) h.present.messages) ∙ sym (sum_of-map (λ m. m.op) (share_of object) (log_of h))

  settled_sum : sum_of (where_passes (is_settled h) (λ e. share_of object e.message.op)) (events h) ≡ (settled_cell h object None).sum
  settled_sum =
      sym (sum_of-filter (is_settled h) (λ e. share_of object e.message.op) (events h)) ∙ sym (counter_sum-sum_of object (filter (is_settled h) (events h))) ∙ ap (λ k. (object_cell h k object).sum) (sym is)

  uncovered_sum : counter_sum object (filter (is_uncovered_event (events h)) (events h)) ≡ (settled_cell h object None).sum +ℤ total_of object (map (λ m. m.op) (log_of h))
  uncovered_sum =
      let share : Event → ℤ = λ e. share_of object e.message.op in
      let uncovered : Event → Bool = is_uncovered_event (events h) in
      counter_sum-sum_of object (filter uncovered (events h)) ∙ sum_of-filter uncovered share (events h)
      ∙ sum_of-split (where_passes uncovered share) (where_passes (is_settled h) share) (where_passes (is_pending h) share) (λ e. split_share (is_stable_event h e) (uncovered e) (share e)) (events h)
      ∙ (λ i. settled_sum i +ℤ pending_sum i)

pub rcounter_by_settled_and_logged : (w : ℕ) (h : History) (object : ObjectId) → IsTrue (is_history w h) → object.kind ≡ RCounter
    → rcounter_sum object (events h) ≡ (settled_cell h object None).sum +ℤ total_of object (map (λ m. m.op) (log_of h))
rcounter_by_settled_and_logged w h object t is = rcounter_by_uncovered w h object t is ∙ uncovered_sum h object is
