use Rattle.std.proofs.Common.{◌≢◌, ◌≤◌}
use Rattle.mailboxes.specs.Passes.{seen, IsOf}
use Rattle.thread_tests.proofs.mails.work.Given as goal

abbrev pub invariant-loop : goal.invariant-loop
invariant-loop g l = IsOf l.mailbox l.pass × ((seen l.pass).number ≢ 0) × (l.posted ≤ 2500)
