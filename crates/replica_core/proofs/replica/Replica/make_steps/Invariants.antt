use Rattle.std.proofs.Common.{length, vec_capacity}
use Rattle.replica_core.proofs.Made.{IsMaking}
use Rattle.replica_core.proofs.replica.Replica.make_steps.Given as goal

abbrev pub invariant-loop-steps : goal.invariant-loop-steps
invariant-loop-steps l = IsMaking l.fn.self l.self l.fn.steps.items l.steps.items (vec_capacity l.steps)

abbrev pub decreases-loop-steps : goal.decreases-loop-steps
decreases-loop-steps l = length l.self.buffer.early
