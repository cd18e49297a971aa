use Rattle.std.proofs.Common.{◌≡◌, ℕ, ◌<◌, None}
use Rattle.std.specs.List.{find}
use Rattle.causal_buffer.specs.Queue.{is_ready}
use Rattle.causal_buffer.proofs.buffer.CausalBuffer.next.Given as goal

-- no message of the members so far can be delivered
abbrev pub invariant-loop-member : goal.invariant-loop-member
invariant-loop-member l = (k : ℕ) → k < l.member → find (is_ready l.self.n l.counts k) l.self.early ≡ None
