-- A queue in a block of memory, as contracts see it.
use Rattle.std.specs.Prelude.{ℕ, List}
use Rattle.tag_window.specs.declared.held.Held.{Held}

-- for how many it has room, and what it holds, the first in front
pub record Filled : Type 0 where
  pub room : ℕ
  pub items : List Held
