use Rattle.std.proofs.Common.{nat_cmp, ◌≡◌, ◌+◌, ◌*◌, sym, subst, ◌∙◌, arith}
use Rattle.op_base.proofs.Padded.{IsOrderFrom, parts_at, equal_beyond}
use Rattle.op_base.proofs.name.order_of.Goals as goal

pub returns-then-is_ne : goal.returns-then-is_ne
returns-then-is_ne c =
    parts_at c.args.bytes.now c.args.others.now (λ i. omega (arith, c.type_inv.bytes i)) (λ i. omega (arith, c.type_inv.others i)) _ _
    (omega (arith, c.requires.bytes, c.loop-i-test.true)) (omega (arith, c.requires.others, c.loop-i-test.true)) c.loop-i.invariant
    (c.cmp-order.ensures ∙ (λ i. nat_cmp (c.number_at.ensures i) (c.number_at-in-loop-i.ensures i)))
    (sym c.is_ne.ensures ∙ c.if-is_ne.true)

pub loop-i-preserved : goal.loop-i-preserved
loop-i-preserved c =
    let next : 8 * c.loop-i.i + 8 ≡ 8 * (c.loop-i.i + 1) = omega arith in
    subst (λ at. IsOrderFrom at c.args.bytes.now c.args.others.now) next
    (equal_beyond c.args.bytes.now c.args.others.now (λ i. omega (arith, c.type_inv.bytes i)) (λ i. omega (arith, c.type_inv.others i)) _ _
    (omega (arith, c.requires.bytes, c.loop-i-test.true)) (omega (arith, c.requires.others, c.loop-i-test.true)) c.loop-i.invariant
    (c.cmp-order.ensures ∙ (λ i. nat_cmp (c.number_at.ensures i) (c.number_at-in-loop-i.ensures i)))
    (sym c.is_ne.ensures ∙ c.if-is_ne.false))
