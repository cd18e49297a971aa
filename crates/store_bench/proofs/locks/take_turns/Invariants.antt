use Rattle.store_bench.specs.Passes.{IsIdle}
use Rattle.store_bench.proofs.locks.take_turns.Given as goal

abbrev pub invariant-loop-call : goal.invariant-loop-call
invariant-loop-call g l = IsIdle l.lock l.pass
