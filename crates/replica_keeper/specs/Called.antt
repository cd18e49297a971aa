-- What the calls of a world do at one of its durable replicas.
use Rattle.std.specs.Prelude.{◌≡◌, ◌⊎◌, ℕ, ◌<◌, Bool, IsTrue, List, [], ◌++◌, length, Some, if◌then◌else◌}
use Rattle.std.specs.List.{slice_index_or}
use Rattle.causal_model.specs.State.{State}
use Rattle.causal_model.specs.declared.note.Note.{Note}
use Rattle.world_model.specs.Records.{Settings}
use Rattle.world_model.specs.Stops.{is_send}
use Rattle.replica_keeper.specs.Calls.{state_then}
use Rattle.replica_keeper.specs.Durably.{numbers}
use Rattle.replica_keeper.specs.Keeping.{groups_of, with_group}
use Rattle.replica_keeper.specs.Open.{NotedNode, GoesOn, notes_in}
use Rattle.replica_keeper.specs.ShowsKeep.{SteadyDurable}

-- the numbers of a durable replica, and the state that its notes give
abbrev pub settings_of : SteadyDurable → Settings
settings_of it = numbers it.me it.n it.w it.limit

abbrev pub state_in : SteadyDurable → State
state_in it = state_then (settings_of it) (notes_in it.node)

-- how many bytes are synced after a call that noted this
abbrev pub synced_by : Bool → ℕ → ℕ → ℕ
synced_by send all before = if send then all else before

-- a call noted this, in a group where it is something: one that sends has all bytes synced
pub record HasNoted (before after : SteadyDurable) (what : List Note) : Type 0 where
  pub settings : settings_of after ≡ settings_of before
  pub same : GoesOn before.node after.node
  pub noted : notes_in after.node ≡ notes_in before.node ++ what
  pub groups : groups_of (notes_in after.node) ≡ with_group (groups_of (notes_in before.node)) what
  pub synced : after.keeper.synced ≡ synced_by (is_send what) (length after.keeper.held) before.keeper.synced

-- a call answers as was told, and leaves this; or there was no memory, where it may be wanted
abbrev pub ComesTo : {A : Type 0} → A → (A → Bool) → A → A → Type 0 → Type 0
ComesTo no_memory takes_memory told answer Leaves = ((answer ≡ told) × Leaves) ⊎ ((answer ≡ no_memory) × IsTrue (takes_memory told))

-- a durable replica is a member's that has noted nothing
pub record IsNew (n r w limit : ℕ) (it : SteadyDurable) : Type 0 where
  pub settings : settings_of it ≡ numbers r n w limit
  pub node : NotedNode
  pub opened : it.node ≡ Some node
  pub none : node.journal.notes ≡ []
  pub unsynced : it.keeper.synced ≡ 0

-- so are those of the first members
pub record AreNew (n w limit count : ℕ) (list : List SteadyDurable) : Type 0 where
  pub count_is : length list ≡ count
  pub each : (r : ℕ) (d : SteadyDurable) → r < count → IsNew n r w limit (slice_index_or list r d)
