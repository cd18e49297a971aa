use Rattle.world_model.proofs.Worlds.{opening_is_world, opening_has_size}
use Rattle.world_model.proofs.laws.an_opening_is_a_world.Goals as goal

pub returns : goal.returns
returns c = record { world = opening_is_world; size = opening_has_size }
