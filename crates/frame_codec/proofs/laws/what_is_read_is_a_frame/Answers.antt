use Rattle.frame_codec.proofs.Read.{frames_are_read, read_is_a_frame, faults_are_read}
use Rattle.frame_codec.proofs.laws.what_is_read_is_a_frame.Goals as goal

pub returns : goal.returns
returns c = record { frames = frames_are_read; read = read_is_a_frame; faults = faults_are_read }
