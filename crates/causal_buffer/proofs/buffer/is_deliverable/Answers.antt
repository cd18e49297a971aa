use Rattle.std.proofs.Common.{◌-◌, ◌==◌, ◌&&◌, sym, ◌∙◌}
use Rattle.std.proofs.lemmas.Bool.{eq-eqb, ne_eqb}
use Rattle.op_base.specs.Timestamp.{count_above}
use Rattle.causal_buffer.proofs.Deliverable.{told_deliverable}
use Rattle.causal_buffer.proofs.buffer.is_deliverable.Goals as goal

pub returns-then-at : goal.returns-then-at
returns-then-at c =
    let next = sym (eq-eqb _ _ c.if-at.true) ∙ (λ i. (c.at.ensures i - 1) == c.at-2.ensures i) in
    (λ i. next i && (c.count_above.ensures i == 1)) ∙ told_deliverable c.args.counts.now c.args.message.now c.requires

pub returns-else-at : goal.returns-else-at
returns-else-at c =
    let m = c.args.message.now in
    let fails = sym (ne_eqb _ _ c.if-at.false) ∙ (λ i. (c.at.ensures i - 1) == c.at-2.ensures i) in
    ne_eqb _ _ c.if-at.false ∙ (λ i. fails i && (count_above m.tag c.args.counts.now == 1)) ∙ told_deliverable c.args.counts.now m c.requires
