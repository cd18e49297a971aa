use Rattle.std.proofs.Common.{refl}
use Rattle.frame_codec.specs.Fault.{fault_by}
use Rattle.world_model.proofs.worked_epochs.frames_of_an_epoch_that_is_over_are_none.Goals as goal

pub returns : goal.returns
unfolding fault_by
returns c = record { old_version = refl; old_epoch = refl }
