-- What a durable replica's call answered.
use Rattle.std.specs.Prelude.{ℕ}
use Rattle.world_model.specs.Records.{Settings}
use Rattle.replica_keeper.specs.declared.durably.Durably.{Durably}
use Rattle.replica_keeper.specs.declared.durably.Durably.TheVariants.{Done, KeeperFault, Closed}

-- the replica's own answer has P, where there is one
abbrev pub IfDone : {T : Type 0} → Durably T → (T → Type 0) → Type 0
IfDone (Done answer) P = P answer
IfDone KeeperFault P = Unit {0}
IfDone Closed P = Unit {0}

-- the four numbers of a replica
abbrev pub numbers : ℕ → ℕ → ℕ → ℕ → Settings
numbers me n w limit = record { me = me; n = n; w = w; limit = limit }
