-- Which plain keep world a world of durable replicas shows, and when its calls follow the rules of one.
use Rattle.std.specs.Prelude.{◌≡◌, ◌⊎◌, ℕ, Bool, false, IsTrue, map, Some}
use Rattle.std.specs.List.{slice_index_or}
use Rattle.world_model.specs.Stops.{PlainKeep}
use Rattle.replica_keeper.specs.Open.{NotedNode}
use Rattle.replica_keeper.specs.ShowsKeep.{SteadyDurable, ShowsKeep}
use Rattle.replica_keeper.specs.declared.keep_world.KeepWorld.{KeepWorld}

-- a world that goes on shows a plain keep world
pub record Shown (world : KeepWorld) (keep : PlainKeep) : Type 0 where
  pub goes_on : world.ended ≡ false
  pub shows : ShowsKeep world.replicas.items (map (λ row. row.items) world.sent.items) keep

-- A call follows a rule while the world goes on: its answer is the rule's, and the world then shows the rule's next; or memory
-- ran out, at an answer of the rule for which it may be wanted, and nothing is said of the world.
abbrev pub FollowsOrEnds : {A : Type 0} → A → (A → Bool) → (PlainKeep → A × PlainKeep) → KeepWorld → A → KeepWorld → Type 0
FollowsOrEnds no_memory takes_memory rule old answer new =
    (keep : PlainKeep) → Shown old keep → ((answer ≡ (rule keep).0) × Shown new (rule keep).1) ⊎ ((answer ≡ no_memory) × IsTrue (takes_memory (rule keep).0))

-- a node is that of a member's replica in a world
abbrev pub IsNodeAt : KeepWorld → ℕ → NotedNode → Type 0
IsNodeAt world r node = (d : SteadyDurable) → (slice_index_or world.replicas.items r d).node ≡ Some node
