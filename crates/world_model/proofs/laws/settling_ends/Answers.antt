use Rattle.world_model.proofs.Rounds.{settling_keeps_world, settling_ends, more_rounds_are_none}
use Rattle.world_model.proofs.Still.{settled_is_still}
use Rattle.world_model.proofs.laws.settling_ends.Goals as goal

pub returns : goal.returns
returns c = record { world = settling_keeps_world; ends = settling_ends; enough = more_rounds_are_none; still = settled_is_still }
