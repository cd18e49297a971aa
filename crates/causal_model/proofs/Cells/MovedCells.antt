-- A cell moved step by step: a counter's is left alone by all but what is applied at once, and that touches no other.
use Rattle.std.proofs.Common.{◌≡◌, ◌≢◌, ℕ, ◌∷◌, [], Bool, true, false, All, IsTrue, List, length, refl, sym, ap, ◌∙◌, inl, inr, Option, Some, None}
use Rattle.std.specs.Prelude.{⊤, ℤ, pos, ◌+ℤ◌, take}
use Rattle.std.specs.Cmp.Lexicographic.{bytes_decides}
use Rattle.std.specs.List.{fold}
use Rattle.std.specs.Ordering.{is_eq}
use Rattle.std.specs.Option.{option_cmp}
use Rattle.std.proofs.Math.IntN.{+ℤ_idr}
use Rattle.std.proofs.Math.Seq.{take-length}
use Rattle.std.proofs.lemmas.Bool.{and_from, and_right, both_ways, cases_Bool, cond-true, cond-false, eq-eqb, false_from_ne_true, false≢true}
use Rattle.std.proofs.lemmas.List.Elements.{All-head, All-tail, All-take}
use Rattle.std.proofs.lemmas.Option.{none-some}
use Rattle.op_base.specs.Object.{kind_place, same_object}
use Rattle.op_base.specs.Operation.{has_act}
use Rattle.op_base.specs.Order.{text_cmp, item_cmp}
use Rattle.op_base.specs.declared.message.Message.{Message}
use Rattle.op_base.specs.declared.name.ObjectId.{ObjectId}
use Rattle.op_base.specs.declared.name.Kind.{Kind}
use Rattle.op_base.specs.declared.name.Kind.TheVariants.{Counter}
use Rattle.op_base.specs.declared.operation.Act.{Act}
use Rattle.op_base.specs.declared.operation.Act.TheVariants.{Inc, Dec}
use Rattle.op_base.specs.declared.operation.Update.{Update}
use Rattle.op_base.specs.declared.operation.Op.{Op}
use Rattle.op_base.specs.declared.operation.Op.TheVariants as op
use Rattle.op_base.specs.declared.outcome.Cell.{Cell}
use Rattle.op_base.proofs.Orders.{items_tied}
use Rattle.causal_model.specs.Acts.{value_of, amount_of, share_of}
use Rattle.causal_model.specs.CellSteps.{is_counter, marks_on, marks_off, with_act, covers_value, covers_place, cell_uncovered, cell_with, cell_settled, is_put_in, cell_absorbed, cell_applied, cell_moved}
use Rattle.causal_model.specs.Log.{log_of, stripped_of, is_kept}
use Rattle.causal_model.specs.Covering.{keeps_act, store_keeps}
use Rattle.causal_model.specs.History.{History, events, with_message, is_history}
use Rattle.causal_model.specs.Items.{zero_cell}
use Rattle.causal_model.specs.Query.{counter_sum}
use Rattle.causal_model.specs.Settled.{sum_cell, object_cell, value_cell, settled_cell}
use Rattle.causal_model.proofs.Events.EventsOfOneMore.{counter_sum_of_one_more}
use Rattle.causal_model.proofs.Cells.KindCells.{place_parts}
use Rattle.causal_model.proofs.Cells.Places.{is_equal}
use Rattle.causal_model.proofs.Answers.Rules.{object_from_same}
use Rattle.causal_model.proofs.Cells.SettledMarks.{cell_of_one_more}
use Rattle.causal_model.proofs.Delivery.Stripped.{each_stripped}

-- ---- kinds and acts

pub counter_kind : (kind : Kind) → is_counter kind ≡ true → kind ≡ Counter
counter_kind Counter t = refl
counter_kind kind t = absurd (false≢true t)

-- an act of a counter names no value, and sets no mark
counter_act : (act : Act) → has_act Counter act ≡ true → (value_of act ≡ None) × (marks_on act ≡ false) × (marks_off act ≡ false)
counter_act (Inc a) t = (refl, refl, refl)
counter_act (Dec a) t = (refl, refl, refl)
counter_act act t = absurd (false≢true t)

-- so does an update's of a counter
counter_update : (u : Update) → u.object.kind ≡ Counter → (value_of u.act ≡ None) × (marks_on u.act ≡ false) × (marks_off u.act ≡ false)
counter_update u is = counter_act u.act (ap (λ k. has_act k u.act) (sym is) ∙ u.of_kind)

-- an object is one with itself
same_itself : (object : ObjectId) → same_object object object ≡ true
same_itself object = and_from _ _ (eq-eqb (kind_place object.kind) (kind_place object.kind) refl) ((bytes_decides object.key object.key).1 refl)

-- no operation of a counter is logged
pub counter_is_not_kept : (u : Update) → u.object.kind ≡ Counter → store_keeps u ≡ false
counter_is_not_kept u is = ap (λ k. keeps_act k u.act) is

-- ---- what leaves a cell alone

module _ (object : ObjectId) (value : Option (List ℕ)) where
  -- an update of another object or value
  other_leaves : (cell : Cell) (u : Update) → (u.object ≡ object → value_of u.act ≡ value → ⊥) → cell_with object value cell (op.Update u) ≡ cell
  other_leaves cell u other = cond-false (is_eq (item_cmp u.object (value_of u.act) object value)) (with_act u.act cell) cell (false_from_ne_true _ (λ t.
      let tied = items_tied u.object object (value_of u.act) value (is_equal (item_cmp u.object (value_of u.act) object value) t) in
      other tied.0 tied.1))

  -- what is applied at once, where it is of another object or value
  other_is_applied : (cell : Cell) (u : Update) → (u.object.kind ≡ Counter → u.object ≡ object → value_of u.act ≡ value → ⊥) → cell_applied object value (op.Update u) cell ≡ cell
  other_is_applied cell u other = elim (cases_Bool (is_counter u.object.kind)) [
    | inl t ↦ cond-true (is_counter u.object.kind) (cell_with object value cell (op.Update u)) cell t ∙ other_leaves cell u (other (counter_kind u.object.kind t))
    | inr f ↦ cond-false (is_counter u.object.kind) (cell_with object value cell (op.Update u)) cell f
  ]

  -- a kind other than a counter's has nothing applied at once
  applied_leaves : object.kind ≢ Counter → (o : Op) (cell : Cell) → cell_applied object value o cell ≡ cell
  applied_leaves other op.NoOp cell = refl
  applied_leaves other (op.Update u) cell = other_is_applied cell u (λ is one _. other (ap (λ (z : ObjectId). z.kind) (sym one) ∙ is))

  module _ (is : object.kind ≡ Counter) where
    -- an operation that is logged
    kept_leaves : (cell : Cell) (o : Op) → is_kept store_keeps o ≡ true → cell_with object value cell o ≡ cell
    kept_leaves cell op.NoOp kept = refl
    kept_leaves cell (op.Update u) kept = other_leaves cell u (λ one _. both_ways (store_keeps u) (counter_is_not_kept u (ap (λ (z : ObjectId). z.kind) one ∙ is)) kept)

    kept_leave : (cell : Cell) (es : List Message) → All (λ e. is_kept store_keeps e.op ≡ true) es → fold (λ c e. cell_with object value c e.op) cell es ≡ cell
    kept_leave cell [] each = refl
    kept_leave cell (e ∷ es) each =
        ap (λ c. fold (λ d y. cell_with object value d y.op) c es) (kept_leaves cell e.op (All-head (λ y. is_kept store_keeps y.op ≡ true) e es each))
        ∙ kept_leave cell es (All-tail (λ y. is_kept store_keeps y.op ≡ true) e es each)

    nothing_covers : (o : Op) → covers_place o object value ≡ false
    nothing_covers op.NoOp = refl
    nothing_covers (op.Update u) = and_right (same_object u.object object) (covers_value object.kind u.act value) (ap (λ k. covers_value k u.act value) is)

    -- so what is absorbed leaves it, whatever the message is
    absorbed_leaves : (h : History) (m : Message) (k : ℕ) → cell_absorbed h m k object value ≡ settled_cell h object value
    absorbed_leaves h m k =
        let was : Cell = settled_cell h object value in
        let Kept : Message → Type 0 = λ e. is_kept store_keeps e.op ≡ true in
        let stripped = each_stripped (λ e. ⊤) h m (λ _ _ _. tt) tt in
        kept_leave (cell_uncovered object value m.op was) (take k (stripped_of h m)) (All-take Kept k (stripped_of h m) (λ i d l. (stripped i d l).0))
        ∙ cond-false (covers_place m.op object value) zero_cell was (nothing_covers m.op)

    nothing_settles : (pending : Bool) (cell : Cell) → cell_settled object.kind pending cell ≡ cell
    nothing_settles pending cell = ap (λ k. cell_settled k pending cell) is

-- ---- the cell of a counter

module _ (object : ObjectId) (is : object.kind ≡ Counter) where
  pub counter_cell : (h : History) → settled_cell h object None ≡ sum_cell (counter_sum object (events h))
  counter_cell h = ap (λ k. object_cell h k object) is

  pub value_has_none : (h : History) (v : List ℕ) → settled_cell h object (Some v) ≡ zero_cell
  value_has_none h v = ap (λ k. value_cell h k object v) is

  -- an operation adds its share
  share_is_applied : (sum : ℤ) (o : Op) → cell_applied object None o (sum_cell sum) ≡ sum_cell (sum +ℤ share_of object o)
  share_is_applied sum op.NoOp = sym (ap sum_cell (+ℤ_idr sum))
  share_is_applied sum (op.Update u) = elim (cases_Bool (same_object u.object object)) [
    | inr other ↦
        other_is_applied object None (sum_cell sum) u (λ _ one _. both_ways (same_object u.object object) other (ap (λ z. same_object z object) one ∙ same_itself object))
        ∙ sym (ap sum_cell (+ℤ_idr sum)) ∙ ap (λ z. sum_cell (sum +ℤ z)) (sym (cond-false (same_object u.object object) (amount_of u.act) (pos 0) other))
    | inl one ↦
        let kind : u.object.kind ≡ Counter = ap (λ (z : ObjectId). z.kind) (object_from_same u.object object one) ∙ is in
        let act = counter_update u kind in
        cond-true (is_counter u.object.kind) (cell_with object None (sum_cell sum) (op.Update u)) (sum_cell sum) (ap is_counter kind)
        ∙ cond-true (is_eq (item_cmp u.object (value_of u.act) object None)) (with_act u.act (sum_cell sum)) (sum_cell sum)
        (place_parts u.object object (value_of u.act) None ∙ and_from _ _ one (ap (λ v. is_eq (option_cmp text_cmp v None)) act.0))
        ∙ (λ i. record { on = act.1 i; off = act.2 i; sum = sum +ℤ amount_of u.act })
        ∙ ap (λ z. sum_cell (sum +ℤ z)) (sym (cond-true (same_object u.object object) (amount_of u.act) (pos 0) one))
  ]

  -- and nothing to a value
  value_is_applied : (v : List ℕ) (cell : Cell) (o : Op) → cell_applied object (Some v) o cell ≡ cell
  value_is_applied v cell op.NoOp = refl
  value_is_applied v cell (op.Update u) = other_is_applied object (Some v) cell u (λ kind _ names. none-some v (sym (counter_update u kind).0 ∙ names))

  counter_is_moved : (h : History) (m : Message) (value : Option (List ℕ)) → settled_cell (with_message h m) object value ≡ cell_moved h m object value
  counter_is_moved h m None =
      counter_cell (with_message h m) ∙ ap sum_cell (counter_sum_of_one_more object h m) ∙ sym (share_is_applied (counter_sum object (events h)) m.op)
      ∙ sym (ap (cell_applied object None m.op) (absorbed_leaves object None is h m (length (stripped_of h m)) ∙ counter_cell h))
  counter_is_moved h m (Some v) =
      value_has_none (with_message h m) v ∙ sym (value_has_none h v) ∙ sym (absorbed_leaves object (Some v) is h m (length (stripped_of h m)))
      ∙ sym (value_is_applied v (cell_absorbed h m (length (stripped_of h m)) object (Some v)) m.op)

-- ---- each cell

pub cell_is_moved : (w : ℕ) (h : History) (m : Message) (object : ObjectId) (value : Option (List ℕ)) → IsTrue (is_history w (with_message h m))
    → settled_cell (with_message h m) object value ≡ cell_settled object.kind (is_put_in (log_of (with_message h m)) object value) (cell_moved h m object value)
cell_is_moved w h m object value t =
    let after : Bool = is_put_in (log_of (with_message h m)) object value in
    elim (cases_Bool (is_counter object.kind)) [
      | inl c ↦
          let is : object.kind ≡ Counter = counter_kind object.kind c in
          counter_is_moved object is h m value ∙ sym (nothing_settles object value is after (cell_moved h m object value))
      | inr f ↦
          let other : object.kind ≢ Counter = λ is. both_ways (is_counter object.kind) f (ap is_counter is) in
          let absorb : List Message → Cell = λ es. fold (λ cell e. cell_with object value cell e.op) (cell_uncovered object value m.op (settled_cell h object value)) es in
          cell_of_one_more w h m object value t other
          ∙ ap (λ es. cell_settled object.kind after (absorb es)) (sym (take-length (stripped_of h m)))
          ∙ ap (cell_settled object.kind after) (sym (applied_leaves object value other m.op (cell_absorbed h m (length (stripped_of h m)) object value)))
    ]
