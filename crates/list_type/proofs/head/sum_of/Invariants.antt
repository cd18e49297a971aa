use Rattle.std.proofs.Common.{◌≡◌, ◌*◌, ◌^◌, ◌≤◌, sum, take}
use Rattle.list_type.proofs.head.sum_of.Given as goal

-- the sum so far
abbrev pub invariant-loop-x : goal.invariant-loop-x
invariant-loop-x l = (l.sum ≡ sum (take l.x l.tag)) × (l.sum ≤ 2 ^ 32 * l.x)
