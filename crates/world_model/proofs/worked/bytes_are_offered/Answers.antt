use Rattle.std.proofs.Common.{refl}
use Rattle.frame_codec.specs.Fault.{fault_by}
use Rattle.world_model.proofs.worked.bytes_are_offered.Goals as goal

pub returns : goal.returns
unfolding fault_by
returns c = record { short = refl; of_three = refl; frame = refl; there = refl; unsent = refl }
