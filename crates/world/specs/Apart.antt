-- Nodes that a world can be made of, and the frames of what they sent.
use Rattle.std.specs.Prelude.{◌≡◌, ℕ, ◌≤◌, List, length, map, slice_get, Some, All}
use Rattle.frame_codec.specs.Grammar.{frame_of}
use Rattle.frame_codec.specs.declared.version.Version.TheVariants.{Two}
use Rattle.world_model.specs.Journals.{sent_in, AreJournals}
use Rattle.world.specs.Growing.{journals_of}
use Rattle.world.specs.Shows.{NotedNode}

-- nodes of one store that work apart, that of each member at its place: no epoch has ended, and what one kept another sent
pub record AreApart (w limit : ℕ) (nodes : List NotedNode) : Type 0 where
  pub some : 1 ≤ length nodes
  pub few : length nodes ≤ 16
  pub firsts : (r : ℕ) (node : NotedNode) → slice_get nodes r ≡ Some node → node.first ≡ (r, length nodes)
  pub windows : All (λ node. node.inner.w ≡ w) nodes
  pub limits : All (λ node. node.inner.limit ≡ limit) nodes
  pub journals : AreJournals (length nodes) w limit (journals_of nodes)

-- the frames of what a node's journal sent
abbrev pub frames_by : NotedNode → List (List ℕ)
frames_by node = map (frame_of Two node.inner.n node.inner.epoch) (sent_in node.journal.notes)
