use Rattle.std.proofs.lemmas.Grind.{common_steps}
use Rattle.std.proofs.Common.{arith, sym, ◌∙◌}
use Rattle.script_lang.specs.Names.{is_point}
use Rattle.script_lang.proofs.Places.{split_there, split_nowhere}
use Rattle.script_lang.proofs.name.split_point.Goals as goal

pub returns-in_err-at : goal.returns-in_err-at
returns-in_err-at c =
    let whole = split_nowhere is_point c.args.word.now (sym c.in_err-at.was ∙ c.point_place.ensures) in
    grind (arith, common_steps)

pub returns : goal.returns
returns c =
    let parts = split_there is_point c.args.word.now c.in_ok-at.at (sym c.in_ok-at.was ∙ c.point_place.ensures) in
    grind (arith, common_steps)
