use Rattle.std.proofs.Common.{rules, subst}
use Rattle.causal_model.specs.Covering.{store_covers}
use Rattle.polog.specs.Marks.{Reaches}
use Rattle.replica_core.proofs.Reaches.{store_reaches}
use Rattle.replica_core.proofs.reach.reach_of.Goals as goal

pub returns-in-Update-clause-covers : goal.returns-in-Update-clause-covers
returns-in-Update-clause-covers c = subst (λ reach. Reaches reach store_covers c.args.op.now) (search rules) (store_reaches c.args.op.now)
