use Rattle.std.proofs.Common.{arith}
use Rattle.live_run.proofs.Posts.{posted_at, grow_at, taken_at}
use Rattle.live_run.proofs.posting.take_at.Goals as goal

pub returns-clause-kept : goal.returns-clause-kept
returns-clause-kept g c = λ number notes are.
    posted_at number notes c.args.mailboxes.now c.args.mails.now c.args.x c.index-mailboxes-x.result c.index-mails-x.result c.take.new.pass c.requires.inside c.index-mailboxes-x.is (c.take.ensures.kept number notes) are

pub returns-clause-grow : goal.returns-clause-grow
returns-clause-grow g c = grow_at c.args.mails.now c.args.x c.index-mails-x.result c.take.new.pass (omega (arith, c.requires.inside, c.requires.mails.2.of_each)) c.take.ensures.grows

pub returns-clause-posted : goal.returns-clause-posted
returns-clause-posted g c = taken_at c.args.mails.now c.args.x c.take.new.pass c.take.result (omega (arith, c.requires.inside, c.requires.mails.2.of_each)) c.take.ensures.posted
