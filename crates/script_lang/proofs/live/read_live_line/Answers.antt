use Rattle.script_lang.specs.LiveCommands.{live_command_of}
use Rattle.script_lang.specs.Memory.{live_keeps}
use Rattle.script_lang.specs.Words.{is_passed_over}
use Rattle.script_lang.proofs.Ample.{line_ample}
use Rattle.script_lang.proofs.live.read_live_line.Goals as goal

pub returns-in-Err-clause-ample : goal.returns-in-Err-clause-ample
returns-in-Err-clause-ample c = λ none.
    line_ample live_keeps (is_passed_over c.args.line.now) (live_command_of c.args.n c.args.clients c.args.line.now) c.in-Err.fault (cc) c.in-Err.ensures.ample (cc)
