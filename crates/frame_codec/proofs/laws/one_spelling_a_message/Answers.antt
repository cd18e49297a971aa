use Rattle.frame_codec.proofs.Frames.{some_spelling, one_spelling}
use Rattle.frame_codec.proofs.laws.one_spelling_a_message.Goals as goal

pub returns : goal.returns
returns c = record { some = some_spelling; one = one_spelling }
