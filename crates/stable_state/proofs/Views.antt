-- The cell of an object and a value among items that stand side by side.
use Rattle.std.proofs.Common.{◌≡◌, ◌≢◌, ℕ, ◌+◌, ◌-◌, ◌<◌, ◌≤◌, ◌&&◌, true, false, List, get_or, length, sym, ap, subst, ◌∙◌, inl, inr, Option, Some, arith}
use Rattle.std.specs.Prelude.{slice_get}
use Rattle.std.specs.List.{HoldsAt, between}
use Rattle.std.specs.Ordering.{is_eq, is_le, is_lt, nat_cmp}
use Rattle.std.proofs.lemmas.Bool.{cases_lt, false_from_ne_true}
use Rattle.std.proofs.lemmas.Bool.Decides.{nat_tests}
use Rattle.std.proofs.lemmas.List.Edits.{length-between, get_or-between}
use Rattle.std.proofs.lemmas.Option.{get_or_from_slice_get, slice_get-get_or}
use Rattle.op_base.specs.declared.name.ObjectId.{ObjectId}
use Rattle.op_base.specs.declared.outcome.Item.{Item}
use Rattle.causal_model.specs.Items.{zero_cell, is_at, cell_in, Rise}
use Rattle.stable_state.specs.Places.{IsGapFor}
use Rattle.stable_state.specs.View.{rise_between}
use Rattle.stable_state.proofs.Cells.{IsAway, cell-none}
use Rattle.stable_state.proofs.Changes.{cell_found}
use Rattle.stable_state.proofs.Spans.{All-between, only_place}

-- what the test of a range says of a place
pub in_range : (from place to : ℕ) → (is_le (nat_cmp from place) && is_lt (nat_cmp place to)) ≡ true → (from ≤ place) × (place < to)
in_range from place to t = grind (arith, nat_tests)

pub out_of_range : (from place to : ℕ) → (is_le (nat_cmp from place) && is_lt (nat_cmp place to)) ≡ false → (k : ℕ) → from ≤ k → k < to → k ≢ place
out_of_range from place to f k low high = grind (arith, nat_tests)

module _ (object : ObjectId) (value : Option (List ℕ)) (items : List Item) (from to : ℕ) (ordered : from ≤ to) (within : to ≤ length items) where
  -- where a gap is for them, none of the items is of them
  pub cell_at_gap : (place : ℕ) → IsGapFor object value items place → cell_in (between from to items) object value ≡ zero_cell
  cell_at_gap place gap = cell-none object value (between from to items) (All-between (IsAway object value) items from to within (λ k d l h. elim (cases_lt k place) [
    | inl lt ↦ ap is_eq (gap.before k d (omega arith) lt)
    | inr le ↦ ap is_eq (gap.after k d le (omega (arith, h)))
  ]))

  module _ (rise : Rise items) (place : ℕ) (found : HoldsAt (λ item. is_at object value item ≡ true) items place) where
    -- their item is among them
    pub cell_inside : (item : Item) → slice_get items place ≡ Some item → from ≤ place → place < to → cell_in (between from to items) object value ≡ item.cell
    cell_inside item at low high =
        let k = place - from in
        let there : (d : Item) → get_or (between from to items) k d ≡ get_or items place d = λ d. get_or-between items from to k d (omega arith) ∙ ap (λ j. get_or items j d) (let e : from + k ≡ place = omega arith in e) in
        let lt : k < length (between from to items) = omega (arith, length-between items from to within) in
        cell_found object value (between from to items) k item (rise_between items from to ordered within rise) (λ d. subst (λ (x : Item). is_at object value x ≡ true) (sym (there d)) (found d))
        (slice_get-get_or (between from to items) k item lt ∙ ap Some (there item ∙ get_or_from_slice_get items place item item at))

    -- or it is elsewhere, and none of them is of them
    pub cell_outside : place < length items → ((k : ℕ) → from ≤ k → k < to → k ≢ place) → cell_in (between from to items) object value ≡ zero_cell
    cell_outside there other = cell-none object value (between from to items) (All-between (IsAway object value) items from to within (λ k d l h.
        false_from_ne_true (is_at object value (get_or items k d)) (λ t. other k l h (only_place object value items rise k place d (omega (arith, h)) there t (found d)))))
