-- What an object is, from its part of a history: its entries of the log are all that the log says of it.
use Rattle.std.proofs.Common.{◌≡◌, ℕ, Bool, true, false, ◌&&◌, IsTrue, List, map, refl, sym, ap, ◌∙◌, inl, inr, Option, None, if◌then◌else◌}
use Rattle.std.specs.Prelude.{◌||◌, ℤ, pos, ◌+ℤ◌}
use Rattle.std.specs.List.{filter}
use Rattle.std.proofs.Math.IntN.{+ℤ_idr}
use Rattle.std.proofs.lemmas.Bool.{both_ways, cases_Bool, cond-false}
use Rattle.std.proofs.lemmas.List.Elements.{All-weaker}
use Rattle.op_base.specs.Object.{same_object}
use Rattle.op_base.specs.declared.message.Message.{Message}
use Rattle.op_base.specs.declared.name.ObjectId.{ObjectId}
use Rattle.op_base.specs.declared.name.Kind.TheVariants.{Counter, RCounter}
use Rattle.op_base.specs.declared.operation.Act.{Act}
use Rattle.op_base.specs.declared.operation.Op.{Op}
use Rattle.op_base.specs.declared.operation.Op.TheVariants as op
use Rattle.op_base.specs.declared.outcome.Item.{Item}
use Rattle.causal_model.specs.Acts.{acts_on, amount_of, share_of}
use Rattle.causal_model.specs.Log.{log_of, is_kept}
use Rattle.causal_model.specs.Covering.{store_keeps}
use Rattle.causal_model.specs.History.{History, events, is_history}
use Rattle.causal_model.specs.Items.{cell_in}
use Rattle.causal_model.specs.Parts.{puts, takes, has, is_in, has_logged, has_by_parts, is_on, ArePartsOf}
use Rattle.causal_model.specs.Query.{total_of, counter_sum, rcounter_sum}
use Rattle.causal_model.specs.Settled.{object_cell, settled_cell}
use Rattle.causal_model.proofs.Theory.Elements.{list_any_agree, list_any-filter}
use Rattle.causal_model.proofs.Cells.MovedCells.{counter_is_not_kept}
use Rattle.causal_model.proofs.Answers.PartsOfKinds.{has_by_settled_and_logged}
use Rattle.causal_model.proofs.Answers.PartsOfSums.{rcounter_by_settled_and_logged}
use Rattle.causal_model.proofs.Answers.Rules.{object_from_same}
use Rattle.causal_model.proofs.Delivery.Stripped.{log_is_kept}
use Rattle.causal_model.proofs.Theory.Totals.{sum_of, sum_of-map, sum_of-filter, sum_of_zeros}

module _ (object : ObjectId) (log : List Message) where
  -- the entries of an object do to it what all entries do
  logged_on : (passes : Act → Bool) → has_logged object (filter (is_on object) log) passes ≡ has_logged object log passes
  logged_on passes = list_any-filter (is_on object) (λ m. acts_on object passes m.op) log ∙ list_any_agree (λ m. is_on object m && acts_on object passes m.op) (λ m. acts_on object passes m.op) (λ m. narrower m.op) log where
    narrower : (o : Op) → (acts_on object (λ act. true) o && acts_on object passes o) ≡ acts_on object passes o
    narrower op.NoOp = refl
    narrower (op.Update u) = same (same_object u.object object) where
      same : (b : Bool) → ((b && true) && (b && passes u.act)) ≡ (b && passes u.act)
      same true = refl
      same false = refl

  -- and add to it what all entries add
  total_on : total_of object (map (λ m. m.op) (filter (is_on object) log)) ≡ total_of object (map (λ m. m.op) log)
  total_on =
      let share : Message → ℤ = λ m. share_of object m.op in
      sum_of-map (λ m. m.op) (share_of object) (filter (is_on object) log) ∙ sum_of-filter (is_on object) share log ∙ (λ i. sum_of (λ m. narrower m.op i) log) ∙ sym (sum_of-map (λ m. m.op) (share_of object) log) where
        narrower : (o : Op) → (if acts_on object (λ act. true) o then share_of object o else pos 0) ≡ share_of object o
        narrower op.NoOp = refl
        narrower (op.Update u) = same (same_object u.object object) where
          same : (b : Bool) → (if b && true then (if b then amount_of u.act else pos 0) else pos 0) ≡ (if b then amount_of u.act else pos 0)
          same true = refl
          same false = refl

-- what is kept adds nothing to a counter that can't be cleared
kept_adds_nothing : (object : ObjectId) → object.kind ≡ Counter → (o : Op) → is_kept store_keeps o ≡ true → share_of object o ≡ pos 0
kept_adds_nothing object is op.NoOp kept = refl
kept_adds_nothing object is (op.Update u) kept = elim (cases_Bool (same_object u.object object)) [
  | inl one ↦ absurd (both_ways (store_keeps u) (counter_is_not_kept u (ap (λ (z : ObjectId). z.kind) (object_from_same u.object object one) ∙ is)) kept)
  | inr other ↦ cond-false (same_object u.object object) (amount_of u.act) (pos 0) other
]

log_adds_nothing : (h : History) (object : ObjectId) → object.kind ≡ Counter → total_of object (map (λ m. m.op) (log_of h)) ≡ pos 0
log_adds_nothing h object is =
    let share : Message → ℤ = λ m. share_of object m.op in
    sum_of-map (λ m. m.op) (share_of object) (log_of h)
    ∙ sum_of_zeros share (log_of h) (All-weaker (λ e. is_kept store_keeps e.op ≡ true) (λ e. share e ≡ pos 0) (λ e kept. kept_adds_nothing object is e.op kept) (log_of h) (log_is_kept h))

module _ (w : ℕ) (h : History) (object : ObjectId) (entries : List Message) (items : List Item) (t : IsTrue (is_history w h)) (parts : ArePartsOf h object entries items) where
  pub has_from_parts : (value : Option (List ℕ)) → has object.kind object (events h) value ≡ has_by_parts object.kind object (cell_in items object value) entries value
  has_from_parts value =
      has_by_settled_and_logged w h object value t ∙ ap (λ c. has_by_parts object.kind object c (log_of h) value) (sym (parts.settled value))
      ∙ sym (ap (λ es. has_by_parts object.kind object (cell_in items object value) es value) parts.logged
      ∙ (λ i. is_in object.kind ((cell_in items object value).on || logged_on object (log_of h) (puts value) i) ((cell_in items object value).off || logged_on object (log_of h) (takes value) i)))

  total_from_parts : total_of object (map (λ m. m.op) entries) ≡ total_of object (map (λ m. m.op) (log_of h))
  total_from_parts = ap (λ es. total_of object (map (λ m. m.op) es)) parts.logged ∙ total_on object (log_of h)

  pub sum_from_parts : (object.kind ≡ Counter → counter_sum object (events h) ≡ (cell_in items object None).sum +ℤ total_of object (map (λ m. m.op) entries))
      × (object.kind ≡ RCounter → rcounter_sum object (events h) ≡ (cell_in items object None).sum +ℤ total_of object (map (λ m. m.op) entries))
  sum_from_parts = (
    λ is. sym ((λ i. (parts.settled None i).sum +ℤ (total_from_parts ∙ log_adds_nothing h object is) i) ∙ +ℤ_idr (settled_cell h object None).sum ∙ ap (λ k. (object_cell h k object).sum) is),
    λ is. rcounter_by_settled_and_logged w h object t is ∙ sym (λ i. (parts.settled None i).sum +ℤ total_from_parts i),
  )
