use Rattle.std.proofs.Common.{ap, sym, ◌∙◌, length, arith}
use Rattle.op_base.specs.Timestamp.{covers}
use Rattle.causal_model.specs.Stability.{is_stable}
use Rattle.outbox.proofs.Risings.{unstable_from, none_unstable}
use Rattle.outbox.proofs.outbox.stable_len.Goals as goal

pub returns-then-not-covers_id-clause-rest : goal.returns-then-not-covers_id-clause-rest
returns-then-not-covers_id-clause-rest c =
    let stable = c.args.stable.now in
    unstable_from stable c.args.messages.now c.loop-i.i c.index-messages-i.result c.requires.rise c.loop-i-test.true c.loop-i.invariant
    (ap (is_stable stable) (sym c.index-messages-i.is) ∙ ap (covers stable) (sym c.id.ensures) ∙ sym c.covers_id.ensures ∙ c.if-not-covers_id.true)

pub returns-clause-rest : goal.returns-clause-rest
returns-clause-rest c = none_unstable c.args.stable.now c.args.messages.now (length c.args.messages.now) (omega arith) (λ k d l. c.loop-i.invariant k d (omega (arith, l, c.loop-i-test.false)))
