use Rattle.std.proofs.Common.{◌≡◌}
use Rattle.store_bench.proofs.parts.log.Receiver.filled.Given as goal

abbrev pub invariant-loop-origin : goal.invariant-loop-origin
invariant-loop-origin l = l.receiver.log.n ≡ l.n

abbrev pub invariant-loop : goal.invariant-loop
invariant-loop l = l.receiver.log.n ≡ l.n
