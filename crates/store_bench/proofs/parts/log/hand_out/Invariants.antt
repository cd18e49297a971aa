use Rattle.std.proofs.Common.{◌≡◌, length}
use Rattle.store_bench.proofs.parts.log.hand_out.Given as goal

abbrev pub invariant-loop : goal.invariant-loop
invariant-loop l = l.log.n ≡ l.initial.log.n

abbrev pub decreases-loop : goal.decreases-loop
decreases-loop l = length l.log.stripped
