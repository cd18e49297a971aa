use Rattle.mailboxes.specs.Passes.{seen}
use Rattle.live_run.proofs.Posts.{mail_taken, taken_was_posted}
use Rattle.live_run.proofs.posting.take.Goals as goal

pub returns-clause-kept : goal.returns-clause-kept
returns-clause-kept g c = λ number notes is. mail_taken c.args.mailbox.now c.args.pass.now c.take.new.pass c.take.result number notes c.take.ensures.of c.take.ensures.taken c.take.ensures.kept is

pub returns-clause-posted : goal.returns-clause-posted
returns-clause-posted g c = taken_was_posted (seen c.args.pass.now) (seen c.take.new.pass) c.take.result c.take.ensures.taken
