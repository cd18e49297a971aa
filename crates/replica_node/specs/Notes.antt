-- Notes in memory.
use Rattle.std.specs.Prelude.{ℕ, List}
use Rattle.causal_model.specs.declared.note.Note.{Note}

-- notes, oldest first, the room for more, and how often room was asked for
pub record Notes : Type 0 where
  pub notes : List Note
  pub spare : ℕ
  pub asked : ℕ
