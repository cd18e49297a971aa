use Rattle.std.proofs.Common.{ap, ◌∙◌}
use Rattle.std.specs.Option.{is_some}
use Rattle.std.proofs.lemmas.Bool.{false≢true}
use Rattle.replica_core.proofs.Settles.{none_is_applied}
use Rattle.replica_core.proofs.settling.apply.Goals as goal

pub returns-else-is_applied-clause-of : goal.returns-else-is_applied-clause-of
returns-else-is_applied-clause-of c = λ h m is absorbed. none_is_applied h m c.args.items.now.shelf (λ u some. false≢true (c.if-is_applied.ensures ∙ ap is_some (is ∙ some))) absorbed
