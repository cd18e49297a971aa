use Rattle.std.proofs.Common.{◌≡◌, ◌≤◌, ◌-◌, length, take}
use Rattle.store_io.specs.Keeping.{Leaves, LeavesOnly}
use Rattle.replica_keeper.proofs.start.read_all.Given as goal

abbrev pub invariant-pieces : goal.invariant-pieces
invariant-pieces g l = record {
  within : length l.bytes.items ≤ length (g.K.Keeper.held l.initial.keeper);
  read : l.bytes.items ≡ take (length l.bytes.items) (g.K.Keeper.held l.initial.keeper);
  held : g.K.Keeper.held l.keeper ≡ g.K.Keeper.held l.initial.keeper;
  synced : g.K.Keeper.synced l.keeper ≡ g.K.Keeper.synced l.initial.keeper;
  steady : g.K.Keeper.faults l.keeper ≡ g.K.Keeper.faults l.initial.keeper;
  any_moment : LeavesOnly g.K.Keeper.moment g.K.Keeper.left_since l.initial.keeper l.keeper (Leaves (g.K.Keeper.held l.initial.keeper) (g.K.Keeper.synced l.initial.keeper));
}

abbrev pub decreases-pieces : goal.decreases-pieces
decreases-pieces g l = length (g.K.Keeper.held l.initial.keeper) - length l.bytes.items
