use Rattle.std.proofs.Common.{◌≡◌}
use Rattle.store_bench.proofs.parts.log.measure.Given as goal

abbrev pub invariant-loop-turn : goal.invariant-loop-turn
invariant-loop-turn l = l.receiver.log.n ≡ l.n
