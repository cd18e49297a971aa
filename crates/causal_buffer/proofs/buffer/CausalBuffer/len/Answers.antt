use Rattle.std.proofs.Common.{length, ap, ◌∙◌}
use Rattle.causal_buffer.specs.Buffer.{Buffer}
use Rattle.causal_buffer.proofs.buffer.CausalBuffer.len.Goals as goal

pub returns : goal.returns
returns c = c.self.invariant.counted ∙ ap (λ (b : Buffer). length b.early) c.self.view_is
