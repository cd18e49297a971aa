use Rattle.std.proofs.Common.{arith}
use Rattle.std.proofs.lemmas.Grind.{common_steps}
use Rattle.script_lang.proofs.Values.{no_value, value_takes}
use Rattle.script_lang.proofs.name.read_value.Goals as goal

pub returns : goal.returns
returns c =
    let none = no_value c.args.word.now c.read.result c.read.ensures.refused in
    let takes = value_takes c.args.word.now c.read.result c.read.ensures.in_place in
    grind (arith, common_steps)
