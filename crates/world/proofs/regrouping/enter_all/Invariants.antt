use Rattle.std.proofs.Common.{◌≤◌, ◌-◌, vec_capacity}
use Rattle.world.specs.Entrants.{AreEntrants}
use Rattle.world.proofs.Entrants.{AreEntering}
use Rattle.world.proofs.regrouping.enter_all.Given as goal

-- the first members have entered, and the others are left
abbrev pub invariant-loop-q : goal.invariant-loop-q
invariant-loop-q l =
    AreEntering l.n l.initial.nodes.items l.q l.nodes.items
    × AreEntrants l.n l.initial.nodes.items (l.n - l.q) l.entrants.items
    × (l.n ≤ vec_capacity l.nodes)
