-- How large the sums of counters are. The statement is the contract of a function of laws.rt.
use Rattle.std.specs.Prelude.{ℕ, ◌≤◌, ◌^◌, List, None, IsTrue}
use Rattle.op_base.specs.declared.message.Message.{Message}
use Rattle.op_base.specs.declared.name.ObjectId.{ObjectId}
use Rattle.op_base.specs.declared.outcome.Item.{Item}
use Rattle.causal_model.specs.History.{History, is_history, is_limited}
use Rattle.causal_model.specs.Items.{cell_in}
use Rattle.causal_model.specs.Parts.{ArePartsOf}
use Rattle.causal_model.specs.Query.{IsWithin}

-- the settled sum of an object, after every history within the limit
abbrev pub SettledSumsAreInRange : Type 0
SettledSumsAreInRange = (w limit : ℕ) (h : History) (object : ObjectId) (entries : List Message) (items : List Item)
    → IsTrue (is_history w h) → IsTrue (is_limited limit h) → limit ≤ 1000000 → ArePartsOf h object entries items
    → IsWithin (2 ^ 126) (cell_in items object None).sum
