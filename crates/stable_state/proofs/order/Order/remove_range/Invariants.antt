use Rattle.std.proofs.Common.{◌≡◌, ◌≤◌, length}
use Rattle.std.specs.List.{remove_range}
use Rattle.stable_state.proofs.order.Order.remove_range.Given as goal

abbrev pub invariant-loop-end : goal.invariant-loop-end
invariant-loop-end l = record {
  from : l.from ≤ l.end;
  within : l.end ≤ length l.self.items;
  items : remove_range l.self.items l.from l.end ≡ remove_range l.fn.self.items l.from l.fn.to;
  spare : l.fn.self.spare ≤ l.self.spare;
}

abbrev pub decreases-loop-end : goal.decreases-loop-end
decreases-loop-end l = l.end
