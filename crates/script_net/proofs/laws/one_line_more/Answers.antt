use Rattle.script_net.proofs.Transcripts.{one_line_more_replies, one_line_more_leaves}
use Rattle.script_net.proofs.laws.one_line_more.Goals as goal

pub returns : goal.returns
returns c = record { replies = one_line_more_replies; leaves = one_line_more_leaves }
