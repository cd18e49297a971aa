use Rattle.std.proofs.Common.{◌≤◌, ◌-◌, length, take}
use Rattle.replica_keeper.specs.Open.{IsOpen}
use Rattle.replica_keeper.specs.Open.{IsSame}
use Rattle.replica_keeper.proofs.reading.replay.Given as goal

abbrev pub invariant-records : goal.invariant-records
invariant-records l = record {
  within : l.at ≤ length l.bytes;
  opened : IsOpen l.node (take l.at l.bytes) l.at;
  same : IsSame l.initial.node l.node;
}

abbrev pub decreases-records : goal.decreases-records
decreases-records l = length l.bytes - l.at
