use Rattle.std.proofs.lemmas.List.{take_rest}
use Rattle.script_net.specs.Lines.{is_newline}
use Rattle.script_lang.proofs.Places.{split_there, split_nowhere}
use Rattle.script_net.proofs.line.split_line.Goals as goal

pub returns-in-Some-clause-parts : goal.returns-in-Some-clause-parts
returns-in-Some-clause-parts c = rw take_rest (split_there is_newline c.args.bytes.now c.in-Some.at c.in-Some.ensures)

pub returns-in-None-clause-parts : goal.returns-in-None-clause-parts
returns-in-None-clause-parts c = split_nowhere is_newline c.args.bytes.now c.in-None.ensures
