-- Items that stand side by side, and items with one that changed.
use Rattle.std.specs.Prelude.{◌≡◌, ℕ, ◌+◌, ◌≤◌, Bool, true, false, List, length, Option, if◌then◌else◌}
use Rattle.std.specs.List.{AllWithin}
use Rattle.std.specs.Ordering.{is_eq}
use Rattle.op_base.specs.Order.{item_cmp}
use Rattle.op_base.specs.declared.name.Kind.{Kind}
use Rattle.op_base.specs.declared.name.Kind.TheVariants.{AwSet, RwSet}
use Rattle.op_base.specs.declared.name.ObjectId.{ObjectId}
use Rattle.op_base.specs.declared.operation.Op.{Op}
use Rattle.op_base.specs.declared.operation.Op.TheVariants as op
use Rattle.op_base.specs.declared.outcome.Cell.{Cell}
use Rattle.op_base.specs.declared.outcome.Item.{Item}
use Rattle.causal_model.specs.Acts.{value_of}
use Rattle.causal_model.specs.Items.{is_filled}
use Rattle.stable_state.specs.Places.{with_cell}
use Rattle.stable_state.specs.Shelf.{without_span}

-- the items at places from the first up to, and not with, the second are exactly those whose object and value pass
pub record ArePicked (passes : ObjectId → Option (List ℕ) → Bool) (items : List Item) (from to : ℕ) : Type 0 where
  pub ordered : from ≤ to
  pub within : to ≤ length items
  pub before : AllWithin (λ item. passes item.object item.value ≡ false) items 0 from
  pub inside : AllWithin (λ item. passes item.object item.value ≡ true) items from to
  pub after : AllWithin (λ item. passes item.object item.value ≡ false) items to (length items)

-- whether an object and a value are those of a place
abbrev pub is_place : ObjectId → Option (List ℕ) → ObjectId → Option (List ℕ) → Bool
is_place object value other other_value = is_eq (item_cmp object value other other_value)

-- whether an operation is of an object and a value
abbrev pub names_place : Op → ObjectId → Option (List ℕ) → Bool
names_place op.NoOp object value = false
names_place (op.Update u) object value = is_place u.object (value_of u.act) object value

-- items with another cell at a place, or without the item where that cell is none
abbrev pub replaced : ℕ → Cell → List Item → List Item
replaced place cell items = if is_filled cell then with_cell place cell items else without_span place (place + 1) items

-- whether a kind is a set's, in which a value that is added or removed is covered alone
abbrev pub is_set : Kind → Bool
is_set AwSet = true
is_set RwSet = true
is_set kind = false
