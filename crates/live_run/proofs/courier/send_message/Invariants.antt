use Rattle.std.proofs.Common.{◌≡◌}
use Rattle.live_run.specs.Workers.{IsCourierDone}
use Rattle.live_run.proofs.courier.send_message.Given as goal

abbrev pub invariant-loop-x : goal.invariant-loop-x
invariant-loop-x g l = IsCourierDone l.node l.mailboxes l.round.done × (l.round.done.pass ≡ l.initial.round.done.pass)
