-- Turns of a shared node: which node fits which turns, and what their notes are.
use Rattle.std.specs.Prelude.{◌≡◌, ℕ, List, [], ◌∷◌}
use Rattle.std.specs.List.{flat_map}
use Rattle.causal_model.specs.declared.note.Note.{Note}
use Rattle.replica_node.specs.Notes.{Notes}
use Rattle.replica_node.specs.contracts.journal.JournalRecorder.TheImpl.{ghosts}
use Rattle.replica_node.specs.declared.node.Node.{Node}
use Rattle.replica_lock.specs.declared.pass.Settings.{Settings}
use Rattle.turn_lock.specs.Turns.{turn}
use Rattle.turn_lock.specs.declared.view.TurnEntry.{TurnEntry}

-- a node with its journal in memory
abbrev pub NotedNode : Type 0
NotedNode = Node Notes ghosts

-- a turn: the number of the pass whose it was, and the notes of its one call
abbrev pub NotedTurn : Type 0
NotedTurn = TurnEntry (List Note)

-- the notes of turns, oldest first
abbrev pub notes_in : List NotedTurn → List Note
notes_in turns = flat_map (λ t. t.what) turns

-- the turn of a call that noted this: none where it noted nothing
abbrev pub turn_with : ℕ → List Note → List NotedTurn
turn_with number [] = []
turn_with number (note ∷ notes) = turn number (note ∷ notes) ∷ []

-- a node has these numbers
pub record IsNodeOf (key : Settings) (node : NotedNode) : Type 0 where
  pub me : node.inner.me ≡ key.me
  pub n : node.inner.n ≡ key.n
  pub w : node.inner.w ≡ key.w
  pub limit : node.inner.limit ≡ key.limit
  pub first : node.first ≡ (key.me, key.n)

-- a node is the lock's, and its journal has the notes of the turns
pub record Fits (key : Settings) (turns : List NotedTurn) (node : NotedNode) : Type 0 where
  pub is_node : IsNodeOf key node
  pub notes : node.journal.notes ≡ notes_in turns

-- numbers of no store
abbrev pub no_settings : Settings
no_settings = record { me = 0; n = 0; w = 0; limit = 0 }
