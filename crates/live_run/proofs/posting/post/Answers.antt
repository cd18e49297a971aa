use Rattle.live_run.proofs.Posts.{mail_kept}
use Rattle.live_run.proofs.posting.post.Goals as goal

pub returns-clause-kept : goal.returns-clause-kept
returns-clause-kept g c = λ number notes sent is. mail_kept c.args.mailbox.now c.args.pass.now c.post-full.new.pass c.args.letter c.post-full.result number notes c.post-full.ensures.of c.post-full.ensures.posted c.post-full.ensures.kept sent is
