use Rattle.std.proofs.Common.{◌≡◌, false}
use Rattle.thread_tests.proofs.locks.take_watched.Given as goal

abbrev pub invariant-loop : goal.invariant-loop
invariant-loop g l = (l.pass.lock ≡ l.lock) × (l.pass.in_turn ≡ false)
