use Rattle.causal_buffer.specs.Queue.{AreSeen}
use Rattle.causal_buffer.proofs.queue.first_missing.Given as goal

-- what it has seen of the members so far was delivered
abbrev pub invariant-loop-member : goal.invariant-loop-member
invariant-loop-member l = AreSeen l.member l.counts l.message
