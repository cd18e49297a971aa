use Rattle.std.proofs.Common.{◌≡◌}
use Rattle.thread_tests.proofs.nodes.add_often.Given as goal

abbrev pub invariant-loop-call : goal.invariant-loop-call
invariant-loop-call g l = l.pass.lock ≡ l.node
