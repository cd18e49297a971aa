-- Places among items in their one order.
use Rattle.std.specs.Prelude.{◌≡◌, ℕ, zero, suc, ◌≤◌, Bool, true, false, List, [], ◌∷◌, Option, length, not}
use Rattle.std.specs.List.{AllWithin}
use Rattle.std.specs.List.Sorted.{IsPartitionPoint}
use Rattle.std.specs.Ordering.{is_lt, is_gt}
use Rattle.std.specs.declared.cmp.Ordering.TheVariants.{Less, Greater}
use Rattle.op_base.specs.Order.{object_cmp, item_cmp}
use Rattle.op_base.specs.declared.name.ObjectId.{ObjectId}
use Rattle.op_base.specs.declared.outcome.Cell.{Cell}
use Rattle.op_base.specs.declared.outcome.Item.{Item}
use Rattle.causal_model.specs.Items.{Rise}
use Rattle.stable_state.specs.Shelf.{put_at}

-- whether an item is before an object and a value
abbrev pub is_before : ObjectId → Option (List ℕ) → Item → Bool
is_before object value item = is_lt (item_cmp item.object item.value object value)

-- whether an item is of an object, or of one before it
abbrev pub is_up_to : ObjectId → Item → Bool
is_up_to object item = not (is_gt (object_cmp item.object object))

-- items with another cell at a place
abbrev pub with_cell : ℕ → Cell → List Item → List Item
with_cell place cell [] = []
with_cell zero cell (item ∷ items) = record item { cell = cell } ∷ items
with_cell (suc place) cell (item ∷ items) = item ∷ with_cell place cell items

-- items that a test parts at a place: those before it pass, and the others don't
abbrev pub IsParted : (Item → Bool) → List Item → ℕ → Type 0
IsParted passes items place = IsPartitionPoint (λ item. passes item ≡ true) (λ item. passes item ≡ false) items place

-- with an item of an object and a value at a place, items still rise
abbrev pub RisesWithOneAt : ObjectId → Option (List ℕ) → List Item → ℕ → Type 0
RisesWithOneAt object value items place = (item : Item) → item.object ≡ object → item.value ≡ value → Rise (put_at place item items)

-- no item is of an object and a value, and one of them would stand at this place
pub record IsGapFor (object : ObjectId) (value : Option (List ℕ)) (items : List Item) (place : ℕ) : Type 0 where
  pub within : place ≤ length items
  pub before : AllWithin (λ item. item_cmp item.object item.value object value ≡ Less) items 0 place
  pub after : AllWithin (λ item. item_cmp item.object item.value object value ≡ Greater) items place (length items)

-- the items at places from the first up to, and not with, the second are those of an object
pub record IsSpan (object : ObjectId) (items : List Item) (from to : ℕ) : Type 0 where
  pub ordered : from ≤ to
  pub within : to ≤ length items
  pub before : AllWithin (λ item. object_cmp item.object object ≡ Less) items 0 from
  pub inside : AllWithin (λ item. item.object ≡ object) items from to
  pub after : AllWithin (λ item. object_cmp item.object object ≡ Greater) items to (length items)
