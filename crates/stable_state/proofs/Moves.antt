-- Items of a history, and what they are on the way to those of the history with one message more.
use Rattle.std.proofs.Common.{◌≡◌, ◌≢◌, ℕ, ◌+◌, ◌≤◌, ◌^◌, Bool, true, false, ◌||◌, IsTrue, Option, List, Some, length, take, refl, sym, ap, ◌∙◌, subst, inl, inr, arith, lit≤, if◌then◌else◌}
use Rattle.std.specs.Prelude.{ℤ, ◌+ℤ◌, slice_get}
use Rattle.std.specs.List.{list_any}
use Rattle.std.proofs.Math.Seq.{take-length}
use Rattle.std.proofs.lemmas.Bool.{both_ways, cases_Bool, cond-true, cond-false, false_from_ne_true, false≢true, or_cases}
use Rattle.std.proofs.lemmas.Int.{ints}
use Rattle.std.proofs.lemmas.List.Folds.{list_any_more}
use Rattle.std.proofs.lemmas.List.Sums.{fold_more}
use Rattle.std.proofs.lemmas.Option.{get_or_from_slice_get, slice_get_within}
use Rattle.op_base.specs.declared.message.Message.{Message}
use Rattle.op_base.specs.declared.name.Kind.TheVariants.{Counter}
use Rattle.op_base.specs.declared.name.ObjectId.{ObjectId}
use Rattle.op_base.specs.declared.operation.Op.{Op}
use Rattle.op_base.specs.declared.operation.Op.TheVariants as op
use Rattle.op_base.specs.declared.operation.Update.{Update}
use Rattle.op_base.specs.declared.outcome.Cell.{Cell}
use Rattle.op_base.specs.declared.outcome.Item.{Item}
use Rattle.causal_model.specs.Acts.{value_of, amount_of}
use Rattle.causal_model.specs.CellSteps.{is_counter, with_act, cell_uncovered, cell_with, cell_applied, cell_settled, cell_absorbed, cell_moved, is_put_in}
use Rattle.causal_model.specs.Log.{log_of, stripped_of}
use Rattle.causal_model.specs.History.{History, with_message, is_history}
use Rattle.causal_model.specs.Items.{cell_in, Rise}
use Rattle.causal_model.specs.Query.{IsWithin}
use Rattle.causal_model.specs.Settled.{settled_cell, settled_items}
use Rattle.causal_model.proofs.Cells.ItemMaps.{same_cells_same_list}
use Rattle.causal_model.proofs.Cells.MovedCells.{cell_is_moved, counter_kind}
use Rattle.causal_model.proofs.Cells.Places.{items_are_cells, items_are_filled, items_rise}
use Rattle.stable_state.specs.Filled.{filled_of}
use Rattle.stable_state.specs.Picked.{is_place, names_place}
use Rattle.stable_state.specs.Settling.{settled_by}
use Rattle.stable_state.specs.Shelf.{Shelved}
use Rattle.stable_state.specs.Standing.{AreSettledOf, AreAbsorbed, AreMoved, AreNamedTouched}
use Rattle.stable_state.specs.Touched.{is_touched, IsMarkTouched, StayTouched}
use Rattle.stable_state.proofs.Cells.{place_itself, same_place}
use Rattle.stable_state.proofs.Filled.{cell_of_filled, rise_of_filled, filled_are_filled}
use Rattle.stable_state.proofs.Waiting.{unnamed_is_settled}

module _ (h : History) (m : Message) where
  -- the items of a history without what a message covers
  pub covered_is_absorbed : (old new : Shelved) → AreSettledOf h old → ((object : ObjectId) (value : Option (List ℕ)) → cell_in new.items object value ≡ cell_uncovered object value m.op (cell_in old.items object value)) → AreAbsorbed h m 0 new
  covered_is_absorbed old new is cells = record {
    cells = λ object value. cells object value ∙ ap (cell_uncovered object value m.op) (is.cells object value);
    touched = λ object value named. absurd (false≢true named);
  }

  module _ (object : ObjectId) (value : Option (List ℕ)) where
    -- one entry more
    pub absorbed_more : (k : ℕ) (e : Message) → slice_get (stripped_of h m) k ≡ Some e → cell_absorbed h m (k + 1) object value ≡ cell_with object value (cell_absorbed h m k object value) e.op
    absorbed_more k e is =
        fold_more (λ cell (x : Message). cell_with object value cell x.op) (cell_uncovered object value m.op (settled_cell h object value)) (stripped_of h m) k e (slice_get_within (stripped_of h m) k e is)
        ∙ ap (λ (x : Message). cell_with object value (cell_absorbed h m k object value) x.op) (get_or_from_slice_get (stripped_of h m) k e e is)

    -- an operation of a counter is applied at once
    pub moved_at_once : (u : Update) → m.op ≡ op.Update u → u.object.kind ≡ Counter → cell_moved h m object value ≡ cell_with object value (cell_absorbed h m (length (stripped_of h m)) object value) (op.Update u)
    moved_at_once u is kind =
        let cell = cell_absorbed h m (length (stripped_of h m)) object value in
        ap (λ o. cell_applied object value o cell) is ∙ cond-true (is_counter u.object.kind) (cell_with object value cell (op.Update u)) cell (ap is_counter kind)

  -- what all entries name is what any of them does
  pub all_named : (s : Shelved) → AreNamedTouched (take (length (stripped_of h m)) (stripped_of h m)) s → AreNamedTouched (stripped_of h m) s
  all_named s = subst (λ es. AreNamedTouched es s) (take-length (stripped_of h m))

  -- where nothing is applied at once, all are moved with the last entry
  pub all_are_moved : (s : Shelved) → AreAbsorbed h m (length (stripped_of h m)) s → ((object : ObjectId) (value : Option (List ℕ)) (cell : Cell) → cell_applied object value m.op cell ≡ cell) → AreMoved h m s
  all_are_moved s of none = record {
    cells = λ object value. of.cells object value ∙ sym (none object value (cell_absorbed h m (length (stripped_of h m)) object value));
    touched = all_named s of.touched;
  }

  -- where what was touched of moved cells is settled, the items are those with the message
  module _ (w : ℕ) (pending : ObjectId → Option (List ℕ) → Bool) (old new : Shelved) (t : IsTrue (is_history w (with_message h m))) (same : (object : ObjectId) (value : Option (List ℕ)) → pending object value ≡ is_put_in (log_of (with_message h m)) object value)
      (moved : AreMoved h m old)
      (settled : (object : ObjectId) (value : Option (List ℕ)) → cell_in new.items object value ≡ (if is_touched old.touched object value then settled_by pending object value (cell_in old.items object value) else cell_in old.items object value)) where
    touched_or_not : (object : ObjectId) (value : Option (List ℕ)) (touched : Bool) → is_touched old.touched object value ≡ touched
        → (if touched then settled_by pending object value (cell_in old.items object value) else cell_in old.items object value) ≡ settled_by pending object value (cell_in old.items object value)
    touched_or_not object value true is = refl
    touched_or_not object value false is =
        moved.cells object value
        ∙ sym (unnamed_is_settled w h m object value t (λ named off. both_ways (is_touched old.touched object value) is (moved.touched object value named (ap (λ (c : Cell). c.off) (moved.cells object value) ∙ off))))
        ∙ sym (λ i. cell_settled object.kind (same object value i) (moved.cells object value i))

    cell_settled_with : (object : ObjectId) (value : Option (List ℕ)) → cell_in new.items object value ≡ settled_cell (with_message h m) object value
    cell_settled_with object value =
        settled object value ∙ touched_or_not object value (is_touched old.touched object value) refl
        ∙ (λ i. cell_settled object.kind (same object value i) (moved.cells object value i))
        ∙ sym (cell_is_moved w h m object value t)

    pub settled_with : Rise new.items → AreSettledOf (with_message h m) new
    settled_with rise =
        let later = with_message h m in
        record {
          items = same_cells_same_list (filled_of new.items) (settled_items later) (rise_of_filled new.items rise) (items_rise later) (filled_are_filled new.items) (items_are_filled later) (λ object value.
              cell_of_filled new.items rise object value ∙ cell_settled_with object value ∙ sym (items_are_cells later object value));
          cells = cell_settled_with;
        }

-- items that are the same are the settled ones of the same history
pub same_are_settled : (h : History) (old new : Shelved) → new.items ≡ old.items → AreSettledOf h old → AreSettledOf h new
same_are_settled h old new same of = record {
  items = ap filled_of same ∙ of.items;
  cells = λ object value. ap (λ items. cell_in items object value) same ∙ of.cells object value;
}

-- items that are the settled ones of a history are those of another that has the same
pub settled_alike : (h other : History) (s : Shelved) → settled_items other ≡ settled_items h → AreSettledOf h s → AreSettledOf other s
settled_alike h other s alike of = record {
  items = of.items ∙ sym alike;
  cells = λ object value. of.cells object value ∙ sym (items_are_cells h object value) ∙ ap (λ items. cell_in items object value) (sym alike) ∙ items_are_cells other object value;
}

-- an operation that is none of a counter is not applied at once
pub not_applied : (o : Op) → ((u : Update) → o ≡ op.Update u → u.object.kind ≢ Counter) → (object : ObjectId) (value : Option (List ℕ)) (cell : Cell) → cell_applied object value o cell ≡ cell
not_applied op.NoOp other object value cell = refl
not_applied (op.Update u) other object value cell =
    cond-false (is_counter u.object.kind) (cell_with object value cell (op.Update u)) cell (false_from_ne_true (is_counter u.object.kind) (λ t. other u refl (counter_kind u.object.kind t)))

-- ---- what is touched, while an update is put in

module _ (old new : Shelved) (u : Update) (cells : (object : ObjectId) (value : Option (List ℕ)) → cell_in new.items object value ≡ cell_with object value (cell_in old.items object value) (op.Update u))
    (stay : StayTouched old new) (marked : IsMarkTouched new u.object (value_of u.act)) where
  -- its own place
  pub own_is_touched : (object : ObjectId) (value : Option (List ℕ)) → is_place u.object (value_of u.act) object value ≡ true → IsMarkTouched new object value
  own_is_touched object value here =
      let same = same_place u.object object (value_of u.act) value here in
      subst (λ v. IsMarkTouched new object v) same.1 (subst (λ o. IsMarkTouched new o (value_of u.act)) same.0 marked)

  -- and what was named before
  pub named_stay : (es : List Message) → AreNamedTouched es old → AreNamedTouched es new
  named_stay es touched object value named = elim (cases_Bool (is_place u.object (value_of u.act) object value)) [
    | inl here ↦ own_is_touched object value here
    | inr other ↦ λ off.
        let same = cells object value ∙ cond-false (is_place u.object (value_of u.act) object value) (with_act u.act (cell_in old.items object value)) (cell_in old.items object value) other in
        stay object value (touched object value named (sym (ap (λ (c : Cell). c.off) same) ∙ off)) off
  ]

  -- and the place of one message more, where that is its update
  pub named_more : (es : List Message) (k : ℕ) (e : Message) → slice_get es k ≡ Some e → e.op ≡ op.Update u → AreNamedTouched (take k es) old → AreNamedTouched (take (k + 1) es) new
  named_more es k e is of touched object value named =
      let names : Message → Bool = λ x. names_place x.op object value in
      let parts : (list_any names (take k es) || names e) ≡ true =
      ap (λ (x : Message). list_any names (take k es) || names x) (sym (get_or_from_slice_get es k e e is)) ∙ sym (list_any_more names es k e (slice_get_within es k e is)) ∙ named in
      elim (or_cases (list_any names (take k es)) (names e) parts) [
        | inl sooner ↦ named_stay (take k es) touched object value sooner
        | inr here ↦ own_is_touched object value (ap (λ o. names_place o object value) (sym of) ∙ here)
      ]

-- ---- sums

within_more : (low high : ℕ) (sum : ℤ) → low ≤ high → IsWithin low sum → IsWithin high sum
within_more low high sum le within = (omega (arith, ints), omega (arith, ints))

-- the sum of a cell that takes an update in
module _ (items : List Item) (u : Update) (cell : Cell) (is : cell_in items u.object (value_of u.act) ≡ cell) where
  pub sum_fits : (moved : Cell) → moved ≡ cell_with u.object (value_of u.act) cell (op.Update u) → IsWithin (2 ^ 81) moved.sum → IsWithin (2 ^ 127) ((cell_in items u.object (value_of u.act)).sum +ℤ amount_of u.act)
  sum_fits moved same within =
      let value = value_of u.act in
      let sum : moved.sum ≡ (cell_in items u.object value).sum +ℤ amount_of u.act =
      ap (λ (c : Cell). c.sum) (same ∙ cond-true (is_place u.object value u.object value) (with_act u.act cell) cell (place_itself u.object value) ∙ ap (with_act u.act) (sym is)) in
      within_more (2 ^ 81) (2 ^ 127) _ (lit≤ tt) (subst (IsWithin (2 ^ 81)) sum within)
