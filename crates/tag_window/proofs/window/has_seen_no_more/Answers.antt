use Rattle.std.proofs.Common.{sym, ◌∙◌, arith}
use Rattle.std.proofs.lemmas.Bool.{eqb-true}
use Rattle.op_base.proofs.Timestamps.{alone_above}
use Rattle.tag_window.proofs.window.has_seen_no_more.Goals as goal

pub returns-then-at : goal.returns-then-at
returns-then-at c = λ one x ne.
    alone_above c.args.message.now.origin c.args.message.now.tag c.args.last.now (sym c.requires.last) (omega (arith, c.if-at.true, c.at.ensures, c.at-2.ensures)) (sym c.count_above.ensures ∙ eqb-true _ _ one) x ne
