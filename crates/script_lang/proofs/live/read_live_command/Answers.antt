use Rattle.std.proofs.Common.{arith, ap, map, subst, ◌∙◌}
use Rattle.script_lang.specs.Memory.{Reads, IsAmple, live_keeps}
use Rattle.script_lang.proofs.SevenWords.{live_command_of_line}
use Rattle.script_lang.proofs.live.read_live_command.Goals as goal

pub returns-clause-command : goal.returns-clause-command
returns-clause-command c =
    let first = ap (map (λ word. word.now)) c.as_slice.ensures ∙ c.split.ensures in
    subst (λ wanted. Reads wanted c.read_live_words.result) (live_command_of_line c.args.n c.args.clients c.args.line.now _ (omega arith) first) c.read_live_words.ensures.command

pub returns-clause-ample : goal.returns-clause-ample
returns-clause-ample c =
    let first = ap (map (λ word. word.now)) c.as_slice.ensures ∙ c.split.ensures in
    subst (λ wanted. IsAmple live_keeps wanted c.read_live_words.result) (live_command_of_line c.args.n c.args.clients c.args.line.now _ (omega arith) first) c.read_live_words.ensures.ample
