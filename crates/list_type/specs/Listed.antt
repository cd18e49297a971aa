-- Lists as contracts see them, and when they are those of a history.
use Rattle.std.specs.Prelude.{◌≡◌, ℕ, ◌≤◌, List, All}
use Rattle.op_base.specs.declared.message.Message.{Message}
use Rattle.op_base.specs.declared.name.Kind.TheVariants as kinds
use Rattle.op_base.specs.declared.name.ObjectId.{ObjectId}
use Rattle.causal_model.specs.History.{History}
use Rattle.causal_model.specs.KeptElements.{KeptElement, kept_elements}
use Rattle.causal_model.specs.ListSteps.{kept_moved}

-- the elements that are kept of each list, in its order, and how many more there is room for
pub record Listed : Type 0 where
  pub kept : ObjectId → List KeptElement
  pub spare : ℕ

-- lists are those of a history: what the definitions keep of it
abbrev pub AreListsOf : History → Listed → Type 0
AreListsOf h lists = (object : ObjectId) → object.kind ≡ kinds.List → lists.kept object ≡ kept_elements h object

-- they are those of a history with its next message's element, and without what the first k entries that go from the log take out
abbrev pub AreListsMoved : History → Message → ℕ → Listed → Type 0
AreListsMoved h m k lists = (object : ObjectId) → object.kind ≡ kinds.List → lists.kept object ≡ kept_moved h m k object

-- no element stands deeper than so many
abbrev pub AreWithin : ℕ → Listed → Type 0
AreWithin most lists = (object : ObjectId) → object.kind ≡ kinds.List → All (λ e. e.depth ≤ most) (lists.kept object)
