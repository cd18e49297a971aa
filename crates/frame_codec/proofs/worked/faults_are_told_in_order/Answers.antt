use Rattle.std.proofs.Common.{refl}
use Rattle.frame_codec.specs.Fault.{fault_by}
use Rattle.frame_codec.proofs.worked.faults_are_told_in_order.Goals as goal

pub returns : goal.returns
unfolding fault_by
returns c = record { origin = refl; members = refl }
