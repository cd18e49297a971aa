-- What stands at the front of bytes, and what reading one record of them does to a node.
use Rattle.std.specs.Prelude.{◌≡◌, ℕ, suc, ◌+◌, ◌≤◌, List, [], ◌∷◌, ◌++◌, length, take, drop, Some}
use Rattle.causal_model.specs.declared.note.Note.{Note}
use Rattle.replica_node.specs.Nodes.{state_by}
use Rattle.world_model.specs.Records.{content_of, record_of, torn, misfit, whole, front_of, group_told, Reading, read_none, read_fault, reading_within}
use Rattle.replica_keeper.specs.Keeping.{cut_of}
use Rattle.replica_keeper.specs.Open.{NotedNode}
use Rattle.replica_keeper.specs.declared.reading.Head.{Head}
use Rattle.replica_keeper.specs.declared.reading.Head.TheVariants.{Torn, Misfit, Whole}
use Rattle.replica_keeper.specs.declared.reading.Read.{Read}
use Rattle.replica_keeper.specs.declared.reading.Read.TheVariants.{End, Fault, Record}

-- bytes begin with a record of so many bytes behind its length
pub record IsHeadOf (len : ℕ) (bytes : List ℕ) : Type 0 where
  pub some : 1 ≤ len
  pub within : 4 + len ≤ length bytes
  pub front : front_of bytes ≡ whole (take len (drop 4 bytes)) (drop len (drop 4 bytes))

abbrev pub IsHead : Head → List ℕ → Type 0
IsHead Torn bytes = front_of bytes ≡ torn
IsHead Misfit bytes = front_of bytes ≡ misfit
IsHead (Whole len) bytes = IsHeadOf len bytes

-- a node noted the group of the record of so many bytes at the front
pub record HasRead (before after : NotedNode) (bytes : List ℕ) (len : ℕ) : Type 0 where
  pub group : List Note
  pub told : group_told before.inner.n before.inner.w before.inner.limit (state_by before.first before.journal.notes) (content_of before.inner.n group) ≡ Some group
  pub some : 1 ≤ length (content_of before.inner.n group)
  pub few : length (content_of before.inner.n group) ≤ 8192
  pub one : cut_of group ≡ record { before = []; groups = group ∷ [] }
  pub noted : after.journal.notes ≡ before.journal.notes ++ group
  pub within : len ≤ length bytes
  pub is : take len bytes ≡ record_of before.inner.n group

-- what bytes are read as at a node, if some record may be read
abbrev pub read_at : NotedNode → List ℕ → ℕ → Reading
read_at node bytes most = reading_within (suc most) node.inner.n node.inner.w node.inner.limit (state_by node.first node.journal.notes) bytes

abbrev pub IsReadAs : NotedNode → NotedNode → List ℕ → Read → Type 0
IsReadAs before after bytes End = ((most : ℕ) → read_at before bytes most ≡ read_none) × (after.journal.notes ≡ before.journal.notes)
IsReadAs before after bytes Fault = (most : ℕ) → read_at before bytes most ≡ read_fault
IsReadAs before after bytes (Record len) = HasRead before after bytes len
