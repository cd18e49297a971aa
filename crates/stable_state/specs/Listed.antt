-- A list of slots, with how many more can be put into it.
use Rattle.std.specs.Prelude.{ℕ, List}

-- slots in their order, and how many more can be put among them without memory
pub record Listed : Type 0 where
  pub items : List ℕ
  pub spare : ℕ
