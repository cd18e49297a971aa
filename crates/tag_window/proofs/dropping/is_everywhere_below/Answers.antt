use Rattle.std.proofs.Common.{sym, ◌∙◌, arith}
use Rattle.std.proofs.lemmas.Bool.{eqb-true}
use Rattle.op_base.proofs.Timestamps.{above_at_each}
use Rattle.tag_window.proofs.dropping.is_everywhere_below.Goals as goal

pub returns : goal.returns
returns c = λ all x l.
    above_at_each c.args.high.now c.args.low.now (sym c.requires) (sym c.count_above.ensures ∙ eqb-true _ _ all ∙ c.from.ensures ∙ c.members.ensures.members) x (omega (arith, l, c.requires))
