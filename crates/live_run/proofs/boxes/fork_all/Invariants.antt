use Rattle.live_run.specs.Opening.{AreForked}
use Rattle.live_run.proofs.boxes.fork_all.Given as goal

abbrev pub invariant-loop-x : goal.invariant-loop-x
invariant-loop-x l = AreForked l.x l.mailboxes l.fn.firsts l.firsts l.mails.items
