use Rattle.std.proofs.Common.{arith, subst}
use Rattle.script_lang.specs.Memory.{Reads, IsAmple, keeps}
use Rattle.script_lang.proofs.SevenWords.{command_of_line}
use Rattle.script_lang.proofs.command.read_command.Goals as goal

pub returns-clause-command : goal.returns-clause-command
returns-clause-command c =
    subst (λ wanted. Reads wanted c.read_words.result) (command_of_line c.args.mode c.args.n c.args.line.now _ (omega arith) c.find_words-count.ensures.words) c.read_words.ensures.command

pub returns-clause-ample : goal.returns-clause-ample
returns-clause-ample c =
    subst (λ wanted. IsAmple keeps wanted c.read_words.result) (command_of_line c.args.mode c.args.n c.args.line.now _ (omega arith) c.find_words-count.ensures.words) c.read_words.ensures.ample
