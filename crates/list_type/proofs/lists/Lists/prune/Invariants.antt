use Rattle.std.proofs.Common.{◌≡◌, ◌≤◌}
use Rattle.list_type.specs.Shown.{shown}
use Rattle.list_type.proofs.Taken.{IsPruning}
use Rattle.list_type.proofs.lists.Lists.prune.Given as goal

abbrev pub invariant-loop : goal.invariant-loop
invariant-loop l = record {
  rows : l.self.rows ≡ l.fn.self.rows;
  pruning : IsPruning l.fn.self.chains.rows l.row l.self.chains.rows l.at l.counter;
  spare : (shown l.fn.self).spare ≤ (shown l.self).spare;
}
