use Rattle.world_model.proofs.Commands.{sending_keeps_world, beating_keeps_world, offering_keeps_world, giving_keeps_world, resending_keeps_world, rawing_keeps_world}
use Rattle.world_model.proofs.laws.commands_keep_worlds.Goals as goal

pub returns : goal.returns
returns c = record {
  sending = sending_keeps_world;
  beating = beating_keeps_world;
  offering = offering_keeps_world;
  giving = giving_keeps_world;
  resending = resending_keeps_world;
  rawing = rawing_keeps_world;
}
