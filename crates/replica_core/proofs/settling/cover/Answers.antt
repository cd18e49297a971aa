use Rattle.std.proofs.Common.{◌∙◌}
use Rattle.replica_core.proofs.Settles.{is_noop, noop_covers_nothing}
use Rattle.replica_core.proofs.settling.cover.Goals as goal

pub returns-in_default-clause-of : goal.returns-in_default-clause-of
returns-in_default-clause-of c = λ h m same. noop_covers_nothing h m c.args.items.now.shelf (same ∙ is_noop _ c.in_default.not-Update)

pub returns-in-Update-clause-of : goal.returns-in-Update-clause-of
returns-in-Update-clause-of c = λ h m same of. c.cover.ensures.of h m (same ∙ c.in-Update.is) of
