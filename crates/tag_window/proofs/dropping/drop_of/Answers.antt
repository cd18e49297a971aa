use Rattle.std.proofs.Common.{sym, arith}
use Rattle.tag_window.proofs.Lines.{none_goes_of}
use Rattle.tag_window.proofs.dropping.drop_of.Goals as goal

pub returns-then-at-clause-left : goal.returns-then-at-clause-left
returns-then-at-clause-left c = λ q.
    sym (none_goes_of c.args.stable.now c.args.firsts.now c.args.queues.now.items c.args.x q (c.requires.of_member q) c.requires.member (omega (arith, c.if-at.true, c.at.ensures, c.at-2.ensures)) c.requires.firsts)
