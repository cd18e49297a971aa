use Rattle.std.proofs.Common.{sym, ap, ◌∙◌}
use Rattle.std.specs.List.{list_any}
use Rattle.causal_model.specs.Early.{has_id}
use Rattle.causal_buffer.proofs.buffer.CausalBuffer.offer.Goals as goal

pub keep-requires-clause-apart : goal.keep-requires-clause-apart
keep-requires-clause-apart c = ap (λ id. list_any (has_id id) c.args.self.now.early) (sym c.id.ensures) ∙ sym c.holds.ensures ∙ c.if-holds.false

pub keep-requires-clause-near : goal.keep-requires-clause-near
keep-requires-clause-near c = sym c.is_far.ensures ∙ c.if-is_far.false
