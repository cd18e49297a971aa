use Rattle.std.proofs.Common.{sym, ◌∙◌}
use Rattle.std.proofs.lemmas.Bool.{both_ways}
use Rattle.world_model.specs.Settling.{is_quiescent, world_settled}
use Rattle.honest_worlds.proofs.Settling.{settling_settles, settled_is_honest}
use Rattle.world.proofs.Honest.{passed_is_honest, settled_is_quiescent}
use Rattle.world.proofs.world.World.settle.Goals as goal

pub returns-in-Err-clause-honest : goal.returns-in-Err-clause-honest
returns-in-Err-clause-honest c old = let some = c.in-Err.ensures.some old.0 old.1 in (some.0, some.2, passed_is_honest old.0 some.0 old.2 some.1)

pub returns-then-is_quiescent-clause-honest : goal.returns-then-is_quiescent-clause-honest
returns-then-is_quiescent-clause-honest c old = (world_settled old.0, c.in-Ok.ensures.made old.0 old.1, (settled_is_honest old.0 old.2).0)

pub returns-then-is_quiescent-clause-quiescent : goal.returns-then-is_quiescent-clause-quiescent
returns-then-is_quiescent-clause-quiescent c old = λ _. (world_settled old.0, c.in-Ok.ensures.made old.0 old.1, settled_is_quiescent old.0 old.2)

pub returns-else-is_quiescent-clause-honest : goal.returns-else-is_quiescent-clause-honest
returns-else-is_quiescent-clause-honest c old = (world_settled old.0, c.in-Ok.ensures.made old.0 old.1, (settled_is_honest old.0 old.2).0)

pub returns-else-is_quiescent-clause-settles : goal.returns-else-is_quiescent-clause-settles
returns-else-is_quiescent-clause-settles c old = λ _.
    let after = world_settled old.0 in
    both_ways (is_quiescent after) (sym (c.is_quiescent.ensures after (c.in-Ok.ensures.made old.0 old.1)) ∙ c.if-is_quiescent.false) (settling_settles old.0 old.2).1
