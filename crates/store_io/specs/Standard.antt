-- What contracts see of standard input and output: what their reader has left and their writer holds, where those tell
-- it, and how many calls have failed.
use Rattle.std.specs.Prelude.{ℕ, List, Option}

pub record InputState : Type 0 where
  pub left : Option (List ℕ)
  pub faults : ℕ

pub record OutputState : Type 0 where
  pub held : Option (List ℕ)
  pub faults : ℕ
