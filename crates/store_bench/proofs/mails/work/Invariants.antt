use Rattle.mailboxes.specs.Passes.{IsOf}
use Rattle.store_bench.proofs.mails.work.Given as goal

abbrev pub invariant-loop : goal.invariant-loop
invariant-loop g l = IsOf l.mailbox l.pass
