-- When items are the settled ones of a history, and what they are while one message more is moved into them.
use Rattle.std.specs.Prelude.{◌≡◌, ℕ, true, List, take, Option}
use Rattle.std.specs.List.{list_any}
use Rattle.op_base.specs.declared.message.Message.{Message}
use Rattle.op_base.specs.declared.name.ObjectId.{ObjectId}
use Rattle.causal_model.specs.CellSteps.{cell_absorbed, cell_moved}
use Rattle.causal_model.specs.History.{History}
use Rattle.causal_model.specs.Items.{cell_in}
use Rattle.causal_model.specs.Log.{stripped_of}
use Rattle.causal_model.specs.Settled.{settled_cell, settled_items}
use Rattle.stable_state.specs.Filled.{filled_of}
use Rattle.stable_state.specs.Picked.{names_place}
use Rattle.stable_state.specs.Shelf.{Shelved}
use Rattle.stable_state.specs.Touched.{IsMarkTouched}

-- the items that have a mark or a sum are the settled ones of a history, and each cell is the history's
pub record AreSettledOf (h : History) (shelved : Shelved) : Type 0 where
  pub items : filled_of shelved.items ≡ settled_items h
  pub cells : (object : ObjectId) (value : Option (List ℕ)) → cell_in shelved.items object value ≡ settled_cell h object value

-- what messages name is touched, if it has an off mark
abbrev pub AreNamedTouched : List Message → Shelved → Type 0
AreNamedTouched messages shelved = (object : ObjectId) (value : Option (List ℕ))
    → list_any (λ e. names_place e.op object value) messages ≡ true → IsMarkTouched shelved object value

-- Items are those of a history without what a message covers, and with the first k of the entries that go from the log.
-- What these name is touched, if it has an off mark.
pub record AreAbsorbed (h : History) (m : Message) (k : ℕ) (shelved : Shelved) : Type 0 where
  pub cells : (object : ObjectId) (value : Option (List ℕ)) → cell_in shelved.items object value ≡ cell_absorbed h m k object value
  pub touched : AreNamedTouched (take k (stripped_of h m)) shelved

-- they are those with all of them, and with the message where it is applied at once
pub record AreMoved (h : History) (m : Message) (shelved : Shelved) : Type 0 where
  pub cells : (object : ObjectId) (value : Option (List ℕ)) → cell_in shelved.items object value ≡ cell_moved h m object value
  pub touched : AreNamedTouched (stripped_of h m) shelved
