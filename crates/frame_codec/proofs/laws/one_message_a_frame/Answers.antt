use Rattle.frame_codec.proofs.Frames.{one_message}
use Rattle.frame_codec.proofs.laws.one_message_a_frame.Goals as goal

pub returns : goal.returns
returns c = one_message
