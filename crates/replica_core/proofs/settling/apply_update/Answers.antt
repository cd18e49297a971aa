use Rattle.std.proofs.Common.{sym, ◌∙◌}
use Rattle.replica_core.proofs.Settles.{applied_is, is_applied, noop_is_not_applied}
use Rattle.replica_core.proofs.settling.apply_update.Goals as goal

pub returns-in-Update-clause-of : goal.returns-in-Update-clause-of
returns-in-Update-clause-of c = λ h m is absorbed.
    let u = c.in-Update.update in
    let applied = applied_is c.args.message.now.op u (sym c.replace.ensures.value ∙ c.in-Update.is) c.requires.applied in
    c.apply.ensures.of h m (is_applied m.op u (sym is ∙ applied)) absorbed

pub returns-in_default-clause-of : goal.returns-in_default-clause-of
returns-in_default-clause-of c = λ h m is absorbed.
    absurd (noop_is_not_applied c.args.message.now.op (λ u has. c.in_default.not-Update u (c.replace.ensures.value ∙ has)) c.requires.applied)
