use Rattle.script_net.proofs.Transcripts.{refused_bytes_change_nothing, refused_bytes_go}
use Rattle.script_net.proofs.laws.refused_bytes_change_nothing.Goals as goal

pub returns : goal.returns
returns c = record { nothing = refused_bytes_change_nothing; goes = refused_bytes_go }
