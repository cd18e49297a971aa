use Rattle.world.specs.Entrants.{AreEntrants}
use Rattle.world.proofs.regrouping.next_entrants.Given as goal

-- the last members have begun
abbrev pub invariant-loop-i : goal.invariant-loop-i
invariant-loop-i l = AreEntrants l.n l.nodes l.i l.entrants.items
