use Rattle.std.proofs.Common.{refl}
use Rattle.frame_codec.specs.Fault.{fault_by}
use Rattle.world_model.proofs.worked_stops.records_are_read_up_to_the_first_fault.Goals as goal

pub returns : goal.returns
unfolding fault_by
returns c = record { bytes = refl; all = refl; torn_end = refl; torn = refl; misfit = refl; twice = refl; other_member = refl }
