-- Items in their one order, with those that were touched, and how many more there is room for.
use Rattle.std.specs.Prelude.{◌≡◌, ℕ, true, List, ◌∷◌, ◌++◌, Option, Some, HoldsAt, slice_get, take, drop}
use Rattle.op_base.specs.declared.name.ObjectId.{ObjectId}
use Rattle.op_base.specs.declared.outcome.Item.{Item}
use Rattle.causal_model.specs.Items.{is_at}

-- Items, lowest first, and the slot of each. What was touched is an item, or nothing where that was let go, one entry each time and the last time
-- last. So many more can be put among the items, or touched, without memory.
pub record Shelved : Type 0 where
  pub items : List Item
  pub slots : List ℕ
  pub touched : List (Option Item)
  pub spare : ℕ

-- the items with one put at a place
abbrev pub put_at : ℕ → Item → List Item → List Item
put_at place item items = take place items ++ item ∷ drop place items

-- the items without those at places from the first up to the second
abbrev pub without_span : ℕ → ℕ → List Item → List Item
without_span from to items = take from items ++ drop to items

-- in a slot stands the item of an object and a value
pub record IsSlotOf (object : ObjectId) (value : Option (List ℕ)) (s : Shelved) (slot : ℕ) : Type 0 where
  pub place : ℕ
  pub at : slice_get s.slots place ≡ Some slot
  pub found : HoldsAt (λ item. is_at object value item ≡ true) s.items place
