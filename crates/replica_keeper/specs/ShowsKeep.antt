-- Which plain keep world durable replicas and the frames that they sent show.
use Rattle.std.specs.Prelude.{◌≡◌, ℕ, ◌<◌, List, length, take, Some}
use Rattle.std.specs.List.{slice_index_or}
use Rattle.store_io.specs.MemoryKeeping.{KeeperState}
use Rattle.store_io.specs.contracts.steady_keeper.SteadyKeeperKeeper.TheImpl.{ghosts}
use Rattle.world_model.specs.Records.{records_of}
use Rattle.world_model.specs.Stops.{KeptGroups, PlainKeep, kept_by}
use Rattle.honest_worlds.specs.Stops.{IsKeep}
use Rattle.world.specs.Shows.{Shows}
use Rattle.replica_keeper.specs.Durably.{numbers}
use Rattle.replica_keeper.specs.Keeping.{groups_of}
use Rattle.replica_keeper.specs.Open.{NotedNode}
use Rattle.replica_keeper.specs.declared.durable.Durable.{Durable}

-- a durable replica over memory of which no call fails
abbrev pub SteadyDurable : Type 0
SteadyDurable = Durable KeeperState ghosts

-- it is member r of n, open with this node, and keeps these groups: the bytes synced are the records of those that are
pub record KeepsGroups (n r w limit : ℕ) (it : SteadyDurable) (node : NotedNode) (k : KeptGroups) : Type 0 where
  pub settings : numbers it.me it.n it.w it.limit ≡ numbers r n w limit
  pub opened : it.node ≡ Some node
  pub groups : groups_of node.journal.notes ≡ k.groups
  pub synced : it.keeper.synced ≡ length (records_of n (take k.synced k.groups))

-- Replicas, and the frames that each sent, show a plain keep world, which is one that has what commands keep: their nodes show
-- its plain world, and each keeps its groups.
pub record ShowsKeep (replicas : List SteadyDurable) (rows : List (List (List ℕ))) (keep : PlainKeep) : Type 0 where
  pub is_keep : IsKeep keep
  pub nodes : List NotedNode
  pub count : length nodes ≡ length replicas
  pub shows : Shows nodes rows keep.world
  pub each : (r : ℕ) (it : SteadyDurable) (node : NotedNode) → r < length nodes
      → KeepsGroups (length nodes) r keep.world.w keep.world.limit (slice_index_or replicas r it) (slice_index_or nodes r node) (kept_by keep r)
