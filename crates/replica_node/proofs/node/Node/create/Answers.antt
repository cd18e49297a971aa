use Rattle.std.proofs.Common.{sym, subst}
use Rattle.replica_core.specs.Rules.{StandsFor}
use Rattle.replica_node.specs.Nodes.{state_by}
use Rattle.replica_node.proofs.node.Node.create.Goals as goal

pub invariant_of-result-clause-stands : goal.invariant_of-result-clause-stands
invariant_of-result-clause-stands g c =
    subst (λ notes. StandsFor c.in_ok-inner.inner (state_by (c.args.me, c.args.n) notes)) (sym c.requires) c.in_ok-inner.ensures.empty
