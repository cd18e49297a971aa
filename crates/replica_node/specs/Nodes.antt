-- A node's journal, and the state that it tells.
use Rattle.std.specs.Prelude.{◌≡◌, ℕ, List, length}
use Rattle.causal_model.specs.Journal.{replay}
use Rattle.causal_model.specs.State.{State}
use Rattle.causal_model.specs.declared.note.Note.{Note}

-- the state that notes give, from nothing: first as member first.0 of first.1 members
abbrev pub state_by : ℕ × ℕ → List Note → State
state_by first notes = replay first.1 first.0 notes

-- so many notes there are
abbrev pub IsCount : ℕ → List Note → Type 0
IsCount count notes = count ≡ length notes
