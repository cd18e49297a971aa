use Rattle.causal_model.specs.State.{start}
use Rattle.world.specs.Steps.{AreNodesOf}
use Rattle.world.proofs.world.open_nodes.Given as goal

abbrev pub invariant-loop-me : goal.invariant-loop-me
invariant-loop-me l = AreNodesOf (start l.n) l.w l.limit l.me l.nodes.items
