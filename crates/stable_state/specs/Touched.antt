-- Which places among items were touched: a cell with an off mark was put there, and its marks are yet to be settled.
use Rattle.std.specs.Prelude.{◌≡◌, ℕ, ◌+◌, ◌<◌, ◌⊎◌, Bool, true, false, List, length, Option, Some, None, IfSome, HoldsAt}
use Rattle.std.specs.List.{list_any}
use Rattle.op_base.specs.declared.name.ObjectId.{ObjectId}
use Rattle.op_base.specs.declared.outcome.Item.{Item}
use Rattle.causal_model.specs.Items.{zero_cell, is_at, cell_in}
use Rattle.stable_state.specs.Shelf.{Shelved}

-- whether there is an item, and it is of an object and a value
abbrev pub is_one_at : ObjectId → Option (List ℕ) → Option Item → Bool
is_one_at object value None = false
is_one_at object value (Some item) = is_at object value item

-- whether the item of an object and a value was touched
abbrev pub is_touched : List (Option Item) → ObjectId → Option (List ℕ) → Bool
is_touched touched object value = list_any (is_one_at object value) touched

-- the item of an object and a value is touched, if it has an off mark
abbrev pub IsMarkTouched : Shelved → ObjectId → Option (List ℕ) → Type 0
IsMarkTouched s object value = (cell_in s.items object value).off ≡ true → is_touched s.touched object value ≡ true

-- what was touched is so still, if it has an off mark
abbrev pub StayTouched : Shelved → Shelved → Type 0
StayTouched old new = (object : ObjectId) (value : Option (List ℕ)) → is_touched old.touched object value ≡ true → IsMarkTouched new object value

-- and nothing else is
pub record KeepTouched (old new : Shelved) : Type 0 where
  pub count : length new.touched ≡ length old.touched
  pub stay : StayTouched old new
  pub fewer : (object : ObjectId) (value : Option (List ℕ)) → is_touched new.touched object value ≡ true → is_touched old.touched object value ≡ true

-- at a place stands the item of an object and a value, or where there is no place none does
abbrev pub IsPlaceOf : Option ℕ → List Item → ObjectId → Option (List ℕ) → Type 0
IsPlaceOf None items object value = cell_in items object value ≡ zero_cell
IsPlaceOf (Some place) items object value = HoldsAt (λ item. is_at object value item ≡ true) items place

-- at a place stands an item that was touched
pub record IsTouchedAt (s : Shelved) (place : ℕ) : Type 0 where
  pub within : place < length s.items
  pub touched : HoldsAt (λ item. is_touched s.touched item.object item.value ≡ true) s.items place

-- What was touched last is at a place, where its item is still there. The others were touched before it.
pub record IsLast (s : Shelved) (before : List (Option Item)) (place : Option ℕ) : Type 0 where
  pub count : length before + 1 ≡ length s.touched
  pub fewer : (object : ObjectId) (value : Option (List ℕ)) → is_touched before object value ≡ true → is_touched s.touched object value ≡ true
  pub at : IfSome place (IsTouchedAt s)
  pub last : (object : ObjectId) (value : Option (List ℕ)) → is_touched s.touched object value ≡ true → (is_touched before object value ≡ true) ⊎ IsPlaceOf place s.items object value
