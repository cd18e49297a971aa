use Rattle.live_run.specs.Workers.{IsCourierDone}
use Rattle.live_run.proofs.courier.take_letters.Given as goal

abbrev pub invariant-loop : goal.invariant-loop
invariant-loop g l = IsCourierDone l.node l.mailboxes l.round.done
