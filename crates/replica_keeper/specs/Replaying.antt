-- What reading one record does to a node.
use Rattle.std.specs.Prelude.{◌≡◌, ℕ, Bool, true, false, List, [], ◌∷◌, ◌++◌, Option, Some, None}
use Rattle.causal_model.specs.declared.note.Note.{Note}
use Rattle.replica_node.specs.Nodes.{state_by}
use Rattle.world_model.specs.Records.{group_told}
use Rattle.replica_keeper.specs.Keeping.{cut_of}
use Rattle.replica_keeper.specs.Open.{NotedNode}

-- the group that a record's content tells a node
abbrev pub told_to : NotedNode → List ℕ → Option (List Note)
told_to node content = group_told node.inner.n node.inner.w node.inner.limit (state_by node.first node.journal.notes) content

-- a node noted the group that a record's content tells
pub record HasReplayed (before after : NotedNode) (content : List ℕ) : Type 0 where
  pub group : List Note
  pub told : told_to before content ≡ Some group
  pub noted : after.journal.notes ≡ before.journal.notes ++ group
  pub one : cut_of group ≡ record { before = []; groups = group ∷ [] }

-- it did, or the content tells no group
abbrev pub Replays : NotedNode → NotedNode → List ℕ → Bool → Type 0
Replays before after content true = HasReplayed before after content
Replays before after content false = told_to before content ≡ None
