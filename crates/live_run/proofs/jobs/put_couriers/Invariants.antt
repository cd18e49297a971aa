use Rattle.std.proofs.Common.{◌≡◌, ℕ, ◌+◌, List, length}
use Rattle.script_lang.specs.declared.live.LiveCommand.{LiveCommand}
use Rattle.live_run.specs.Opening.{AreFirsts, AreJobs, AreOpened}
use Rattle.live_run.proofs.jobs.put_couriers.Given as goal

abbrev pub invariant-loop-me : goal.invariant-loop-me
invariant-loop-me l = record {
  count : length l.jobs.items ≡ length l.fn.jobs.items + l.me;
  opened : AreOpened l.nodes l.openers l.jobs.items;
  firsts : AreFirsts l.me l.mailboxes l.firsts;
  jobs : (commands : List LiveCommand) (clients : ℕ) → AreJobs l.nodes l.mailboxes commands clients 0 l.fn.jobs.items → AreJobs l.nodes l.mailboxes commands clients l.me l.jobs.items;
}
