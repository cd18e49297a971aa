use Rattle.script_lang.proofs.Shown.{lines_tell_replies}
use Rattle.script_lang.proofs.laws.replies_can_be_read_back.Goals as goal

pub returns : goal.returns
returns c = lines_tell_replies
