-- What a node's calls answer and note: each follows a rule of notes.
use Rattle.std.specs.Prelude.{ℕ, ◌+◌, ◌≤◌, List, ◌++◌}
use Rattle.causal_model.specs.State.{State}
use Rattle.causal_model.specs.declared.note.Note.{Note}
use Rattle.replica_node.specs.Nodes.{state_by}

-- a rule of states as one of notes, whose first is noted as member first.0 of first.1 members: it is followed at the state that
-- the notes give, and what its answer notes comes behind them
abbrev pub noting : {A : Type 0} → ℕ × ℕ → (A → List Note) → (State → A × State) → List Note → A × List Note
noting first notes_of rule notes = let answer = (rule (state_by first notes)).0 in (answer, notes ++ notes_of answer)

-- from one count of a recorder's to another room was asked for once or not at all
abbrev pub AsksOnceAtMost : ℕ → ℕ → Type 0
AsksOnceAtMost before after = (before ≤ after) × (after ≤ before + 1)
