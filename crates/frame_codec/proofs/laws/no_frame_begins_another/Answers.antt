use Rattle.frame_codec.proofs.Frames.{no_prefix}
use Rattle.frame_codec.proofs.laws.no_frame_begins_another.Goals as goal

pub returns : goal.returns
returns c = no_prefix
