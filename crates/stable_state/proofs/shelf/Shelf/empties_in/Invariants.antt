use Rattle.std.proofs.Common.{◌≡◌, ◌+◌, ◌≤◌}
use Rattle.std.specs.List.{between}
use Rattle.stable_state.specs.Filled.{empties}
use Rattle.stable_state.proofs.shelf.Shelf.empties_in.Given as goal

abbrev pub invariant-loop-place : goal.invariant-loop-place
invariant-loop-place l = record {
  first : l.from ≤ l.place;
  counted : l.count ≡ empties (between l.from l.place l.self.items);
  few : l.count + l.from ≤ l.place;
}
