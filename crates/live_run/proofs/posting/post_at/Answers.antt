use Rattle.std.proofs.Common.{arith}
use Rattle.live_run.proofs.Posts.{posted_at, grow_at}
use Rattle.live_run.proofs.posting.post_at.Goals as goal

pub returns-clause-kept : goal.returns-clause-kept
returns-clause-kept g c = λ number notes sent are.
    posted_at number notes c.args.mailboxes.now c.args.mails.now c.args.x c.index-mailboxes-x.result c.index-mails-x.result c.post.new.pass c.requires.inside c.index-mailboxes-x.is (c.post.ensures.kept number notes sent) are

pub returns-clause-grow : goal.returns-clause-grow
returns-clause-grow g c = grow_at c.args.mails.now c.args.x c.index-mails-x.result c.post.new.pass (omega (arith, c.requires.inside, c.requires.mails.2.of_each)) c.post.ensures.grows
