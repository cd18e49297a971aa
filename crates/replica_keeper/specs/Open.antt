-- An open replica, and what it keeps.
use Rattle.std.specs.Prelude.{◌≡◌, ℕ, List, Option, Some, None, []}
use Rattle.causal_model.specs.declared.note.Note.{Note}
use Rattle.replica_core.specs.Rules.{SameSettings}
use Rattle.replica_node.specs.Notes.{Notes}
use Rattle.replica_node.specs.contracts.journal.JournalRecorder.TheImpl.{ghosts}
use Rattle.replica_node.specs.declared.node.Node.{Node}
use Rattle.world_model.specs.Records.{Settings}
use Rattle.replica_keeper.specs.Keeping.{Keeps}

-- a node with its journal in memory
abbrev pub NotedNode : Type 0
NotedNode = Node Notes ghosts

-- the numbers that a node has
abbrev pub settings_by : NotedNode → Settings
settings_by node = record { me = node.inner.me; n = node.inner.n; w = node.inner.w; limit = node.inner.limit }

-- a node is in its first epoch, and what its journal has is kept
pub record IsOpen (node : NotedNode) (held : List ℕ) (synced : ℕ) : Type 0 where
  pub first : node.first ≡ (node.inner.me, node.inner.n)
  pub epoch : node.inner.epoch ≡ 0
  pub keeps : Keeps (settings_by node) node.journal.notes held synced

-- the same, with these numbers
pub record IsKept (of : Settings) (node : NotedNode) (held : List ℕ) (synced : ℕ) : Type 0 where
  pub me : node.inner.me ≡ of.me
  pub n : node.inner.n ≡ of.n
  pub w : node.inner.w ≡ of.w
  pub limit : node.inner.limit ≡ of.limit
  pub opened : IsOpen node held synced

-- a node keeps its numbers, its epoch and where its journal began
pub record IsSame (before after : NotedNode) : Type 0 where
  pub settings : SameSettings before.inner after.inner
  pub first : after.first ≡ before.first

-- there is such a node, where there was one
abbrev pub GoesOn : Option NotedNode → Option NotedNode → Type 0
GoesOn (Some before) (Some after) = IsSame before after
GoesOn before after = ⊥

-- the notes of a node, where there is one
abbrev pub notes_in : Option NotedNode → List Note
notes_in None = []
notes_in (Some node) = node.journal.notes
