-- A finite map of items, as a list of them. The cells are this project's own profile.
use Rattle.std.specs.Prelude.{◌≡◌, ℕ, Bool, false, not, ◌||◌, pos, List, [], ◌∷◌, Option, Some, None, if◌then◌else◌, IsTrue, All, AllPairs}
use Rattle.std.specs.Ordering.{is_eq, int_eq}
use Rattle.std.specs.declared.cmp.Ordering.TheVariants.{Less}
use Rattle.op_base.specs.Order.{item_cmp}
use Rattle.op_base.specs.declared.name.ObjectId.{ObjectId}
use Rattle.op_base.specs.declared.outcome.Cell.{Cell}
use Rattle.op_base.specs.declared.outcome.Item.{Item}

-- the cell with no mark and the sum 0
abbrev pub zero_cell : Cell
zero_cell = record { on = false; off = false; sum = pos 0 }

-- whether a cell has a mark or a sum other than 0
abbrev pub is_filled : Cell → Bool
is_filled cell = cell.on || cell.off || not (int_eq cell.sum (pos 0))

-- whether an item is of an object and a value
abbrev pub is_at : ObjectId → Option (List ℕ) → Item → Bool
is_at object value item = is_eq (item_cmp item.object item.value object value)

-- the cell of an object and a value among items, or the zero cell
abbrev pub cell_in : List Item → ObjectId → Option (List ℕ) → Cell
cell_in [] object value = zero_cell
cell_in (item ∷ items) object value = if is_at object value item then item.cell else cell_in items object value

-- each item's cell has a mark or a sum
abbrev pub AreFilled : List Item → Type 0
AreFilled items = All (λ item. IsTrue (is_filled item.cell)) items

-- no two items are of one object and value
abbrev pub AreApart : List Item → Type 0
AreApart items = AllPairs (λ (a b : Item). is_at b.object b.value a ≡ false) items

-- items rise in their one order
abbrev pub Rise : List Item → Type 0
Rise items = AllPairs (λ (a b : Item). item_cmp a.object a.value b.object b.value ≡ Less) items

-- an item is there, and has this object, value and cell
abbrev pub IsItem : Option Item → ObjectId → Option (List ℕ) → Cell → Type 0
IsItem None object value cell = ⊥
IsItem (Some item) object value cell = (item.object ≡ object) × (item.value ≡ value) × (item.cell ≡ cell)
