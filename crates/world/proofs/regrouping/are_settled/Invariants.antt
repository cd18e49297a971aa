use Rattle.world.proofs.Regroups.{AreSettled}
use Rattle.world.proofs.regrouping.are_settled.Given as goal

abbrev pub invariant-loop-node : goal.invariant-loop-node
invariant-loop-node l = AreSettled l.nodes l.node-index
