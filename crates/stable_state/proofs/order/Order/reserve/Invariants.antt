use Rattle.std.proofs.Common.{◌≡◌, ◌≤◌, ◌-◌}
use Rattle.stable_state.proofs.order.Order.reserve.Given as goal

abbrev pub invariant-loop-self : goal.invariant-loop-self
invariant-loop-self l = record {
  items : l.self.items ≡ l.fn.self.items;
  spare : l.fn.self.spare ≤ l.self.spare;
}

abbrev pub decreases-loop-self : goal.decreases-loop-self
decreases-loop-self l = l.k - l.self.spare
