-- Which plain world a world shows: its nodes stand for the plain replicas, and its frames are of what these sent.
use Rattle.std.specs.Prelude.{◌≡◌, ℕ, List, map, All}
use Rattle.causal_model.specs.State.{State}
use Rattle.frame_codec.specs.Grammar.{frame_of}
use Rattle.frame_codec.specs.declared.version.Version.TheVariants.{Two}
use Rattle.replica_node.specs.Nodes.{state_by}
use Rattle.replica_node.specs.Notes.{Notes}
use Rattle.replica_node.specs.contracts.journal.JournalRecorder.TheImpl.{ghosts}
use Rattle.replica_node.specs.declared.node.Node.{Node}
use Rattle.world_model.specs.World.{PlainWorld, size_of, epoch_in}
use Rattle.world_model.specs.Worlds.{IsWorld}

-- a node with its journal in memory
abbrev pub NotedNode : Type 0
NotedNode = Node Notes ghosts

-- the state that a node's journal gives
abbrev pub state_of : NotedNode → State
state_of node = state_by node.first node.journal.notes

-- nodes, and the frames that each sent, show a plain world, which is one that has what commands keep
pub record Shows (nodes : List NotedNode) (rows : List (List (List ℕ))) (plain : PlainWorld) : Type 0 where
  pub is_world : IsWorld plain
  -- each node's journal gives its replica's state
  pub states : map state_of nodes ≡ plain.replicas
  pub windows : All (λ node. node.inner.w ≡ plain.w) nodes
  pub limits : All (λ node. node.inner.limit ≡ plain.limit) nodes
  -- the frames are those of what each member sent in this epoch, in the order of their numbers
  pub frames : rows ≡ map (map (frame_of Two (size_of plain) (epoch_in plain))) plain.sent
