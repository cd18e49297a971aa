use Rattle.script_lang.specs.Commands.{command_of}
use Rattle.script_lang.specs.Memory.{keeps}
use Rattle.script_lang.specs.Words.{is_passed_over}
use Rattle.script_lang.proofs.Ample.{line_ample}
use Rattle.script_lang.proofs.command.read_line_in.Goals as goal

pub returns-in-Err-clause-ample : goal.returns-in-Err-clause-ample
returns-in-Err-clause-ample c = λ none.
    line_ample keeps (is_passed_over c.args.line.now) (command_of c.args.mode c.args.n c.args.line.now) c.in-Err.fault (cc) c.in-Err.ensures.ample (cc)
