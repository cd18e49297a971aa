-- The cell of an object and a value in a list of items that is put together of parts.
use Rattle.std.proofs.Common.{◌≡◌, ℕ, All, true, false, List, [], ◌∷◌, ◌++◌, append-nil, refl, sym, ap, ◌∙◌, Option, if◌then◌else◌}
use Rattle.std.specs.Ordering.{is_eq}
use Rattle.std.proofs.lemmas.Bool.{cond-false}
use Rattle.std.proofs.lemmas.Cmp.{tied_itself}
use Rattle.std.proofs.lemmas.List.Elements.{All-head, All-tail}
use Rattle.op_base.specs.Order.{item_cmp}
use Rattle.op_base.specs.declared.name.ObjectId.{ObjectId}
use Rattle.op_base.specs.declared.outcome.Cell.{Cell}
use Rattle.op_base.specs.declared.outcome.Item.{Item}
use Rattle.op_base.proofs.Orders.{items_tied}
use Rattle.causal_model.specs.Items.{zero_cell, is_at, cell_in}
use Rattle.causal_model.proofs.Cells.Places.{is_equal, places_total}
use Rattle.stable_state.specs.Picked.{is_place}

-- an object and a value are at themselves
pub place_itself : (object : ObjectId) (value : Option (List ℕ)) → is_place object value object value ≡ true
place_itself object value = ap is_eq (tied_itself places_total (object, value))

-- what is at an object and a value has them
pub same_place : (object other : ObjectId) (value other_value : Option (List ℕ)) → is_place object value other other_value ≡ true → (object ≡ other) × (value ≡ other_value)
same_place object other value other_value t = items_tied object other value other_value (is_equal (item_cmp object value other other_value) t)

module _ (object : ObjectId) (value : Option (List ℕ)) where
  -- an item is of another object or value
  abbrev pub IsAway : Item → Type 0
  IsAway item = is_at object value item ≡ false

  abbrev cell : List Item → Cell
  cell items = cell_in items object value

  cell-away : (x : Item) (xs : List Item) → IsAway x → cell (x ∷ xs) ≡ cell xs
  cell-away x xs t = cond-false (is_at object value x) x.cell (cell xs) t

  -- items in front that are away leave the cell
  cell-after : (xs ys : List Item) → All IsAway xs → cell (xs ++ ys) ≡ cell ys
  cell-after [] ys away = refl
  cell-after (x ∷ xs) ys away = cell-away x (xs ++ ys) (All-head IsAway x xs away) ∙ cell-after xs ys (All-tail IsAway x xs away)

  pub cell-none : (xs : List Item) → All IsAway xs → cell xs ≡ zero_cell
  cell-none xs away = ap cell (sym (append-nil xs)) ∙ cell-after xs [] away

  -- so do those behind
  cell-before : (xs ys : List Item) → All IsAway ys → cell (xs ++ ys) ≡ cell xs
  cell-before [] ys away = cell-none ys away
  cell-before (x ∷ xs) ys away = ap (λ c. if is_at object value x then x.cell else c) (cell-before xs ys away)

  -- so do those in the middle
  pub cell-around : (xs mid ys : List Item) → All IsAway mid → cell (xs ++ (mid ++ ys)) ≡ cell (xs ++ ys)
  cell-around [] mid ys away = cell-after mid ys away
  cell-around (x ∷ xs) mid ys away = ap (λ c. if is_at object value x then x.cell else c) (cell-around xs mid ys away)

  -- where all others are away, the cell is that of the middle
  pub cell-within : (xs mid ys : List Item) → All IsAway xs → All IsAway ys → cell (xs ++ (mid ++ ys)) ≡ cell mid
  cell-within xs mid ys before after = cell-after xs (mid ++ ys) before ∙ cell-before mid ys after
