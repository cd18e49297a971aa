use Rattle.std.proofs.Common.{◌≡◌, ◌≤◌, length}
use Rattle.std.specs.List.{sum_by}
use Rattle.list_type.specs.Shown.{shown}
use Rattle.list_type.proofs.Taken.{IsTrimming}
use Rattle.list_type.proofs.lists.Lists.trim_from.Given as goal

abbrev pub invariant-loop-node : goal.invariant-loop-node
invariant-loop-node l = record {
  rows : l.self.rows ≡ l.fn.self.rows;
  trimming : IsTrimming l.fn.self.chains.rows l.self.chains.rows l.slot l.at;
  spare : (shown l.fn.self).spare ≤ (shown l.self).spare;
}

abbrev pub decreases-loop-node : goal.decreases-loop-node
decreases-loop-node l = sum_by length l.self.chains.rows
