use Rattle.script_net.specs.Lines.{is_newline}
use Rattle.script_lang.proofs.Places.{position_found}
use Rattle.script_net.proofs.line.first_newline.Goals as goal

pub returns : goal.returns
returns c = position_found is_newline c.args.bytes.now c.memchr.result c.memchr.ensures
