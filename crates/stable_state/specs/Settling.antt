-- Items whose marks are settled, told whether an add of them is pending.
use Rattle.std.specs.Prelude.{◌≡◌, ℕ, Bool, true, false, not, ◌&&◌, ◌||◌, ◌⊎◌, List, map, Option, HoldsAt, if◌then◌else◌}
use Rattle.op_base.specs.declared.name.ObjectId.{ObjectId}
use Rattle.op_base.specs.declared.name.Kind.{Kind}
use Rattle.op_base.specs.declared.name.Kind.TheVariants.{RwSet, DwFlag}
use Rattle.op_base.specs.declared.message.Entry.{Entry}
use Rattle.op_base.specs.declared.outcome.Cell.{Cell}
use Rattle.op_base.specs.declared.outcome.Item.{Item}
use Rattle.causal_model.specs.CellSteps.{cell_settled, is_put_in}
use Rattle.causal_model.specs.Items.{is_at, cell_in}
use Rattle.causal_model.specs.Log.{message_of}
use Rattle.stable_state.specs.Shelf.{Shelved}
use Rattle.stable_state.specs.Touched.{is_touched}

-- whether an entry of a log puts in what an object's value says, or turns it on
abbrev pub put_in_by : List Entry → ObjectId → Option (List ℕ) → Bool
put_in_by entries object value = is_put_in (map message_of entries) object value

-- whether a remove wins in a kind
abbrev pub remove_wins : Kind → Bool
remove_wins RwSet = true
remove_wins DwFlag = true
remove_wins kind = false

-- whether an item has an off mark, in a kind in which a remove wins
abbrev pub can_lose_mark : Item → Bool
can_lose_mark item = item.cell.off && remove_wins item.object.kind

-- whether an item's marks stay: it can't lose its off mark, or an add is pending
abbrev pub waits : (ObjectId → Option (List ℕ) → Bool) → Item → Bool
waits pending item = not (can_lose_mark item) || pending item.object item.value

-- the cell of an object and a value with its marks settled
abbrev pub settled_by : (ObjectId → Option (List ℕ) → Bool) → ObjectId → Option (List ℕ) → Cell → Cell
settled_by pending object value cell = cell_settled object.kind (pending object value) cell

-- the cell of the item at a place has its marks settled, and each other cell is as it was
abbrev pub IsSettledAt : (ObjectId → Option (List ℕ) → Bool) → ℕ → List Item → List Item → Type 0
IsSettledAt pending place old new = HoldsAt (λ item. (object : ObjectId) (value : Option (List ℕ))
    → cell_in new object value ≡ (if is_at object value item then settled_by pending object value (cell_in old object value) else cell_in old object value)) old place

-- Of what was touched, each cell that isn't so now has its marks settled. Each cell settles alike in both, and what wasn't
-- touched is as it was.
pub record AreSettled (pending : ObjectId → Option (List ℕ) → Bool) (old new : Shelved) : Type 0 where
  pub alike : (object : ObjectId) (value : Option (List ℕ)) → settled_by pending object value (cell_in new.items object value) ≡ settled_by pending object value (cell_in old.items object value)
  pub settled : (object : ObjectId) (value : Option (List ℕ)) → is_touched old.touched object value ≡ true
      → (is_touched new.touched object value ≡ true) ⊎ (settled_by pending object value (cell_in new.items object value) ≡ cell_in new.items object value)
  pub others : (object : ObjectId) (value : Option (List ℕ)) → is_touched old.touched object value ≡ false
      → (is_touched new.touched object value ≡ false) × (cell_in new.items object value ≡ cell_in old.items object value)
