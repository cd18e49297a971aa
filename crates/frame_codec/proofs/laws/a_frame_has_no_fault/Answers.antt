use Rattle.frame_codec.proofs.Frames.{frames_pass}
use Rattle.frame_codec.proofs.laws.a_frame_has_no_fault.Goals as goal

pub returns : goal.returns
returns c = frames_pass
