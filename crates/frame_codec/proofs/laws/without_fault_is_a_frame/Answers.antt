use Rattle.frame_codec.proofs.Frames.{some_frame}
use Rattle.frame_codec.proofs.laws.without_fault_is_a_frame.Goals as goal

pub returns : goal.returns
returns c = some_frame
