-- Places for messages in a block of memory, as contracts see them.
use Rattle.std.specs.Prelude.{ℕ, List, Option}
use Rattle.op_base.specs.declared.message.Message.{Message}

-- for how many places there is room, and what stands at each, the first in front
pub record Row : Type 0 where
  pub room : ℕ
  pub items : List (Option Message)
