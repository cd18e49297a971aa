use Rattle.std.proofs.Common.{◌≡◌, vec_capacity}
use Rattle.world.proofs.Entrants.{AreReadied}
use Rattle.world.proofs.regrouping.ready_all.Given as goal

-- the first nodes have room
abbrev pub invariant-loop-q : goal.invariant-loop-q
invariant-loop-q l = AreReadied l.initial.nodes.items l.nodes.items l.q × (vec_capacity l.nodes ≡ vec_capacity l.initial.nodes)
