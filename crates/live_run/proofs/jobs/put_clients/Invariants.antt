use Rattle.std.proofs.Common.{◌≡◌, List, length}
use Rattle.mailboxes.specs.declared.mailbox.Mailbox.{Mailbox}
use Rattle.live_run.specs.Inputs.{commands_in}
use Rattle.live_run.specs.Opening.{AreJobs, AreOpened}
use Rattle.live_run.specs.declared.letter.Letter.{Letter}
use Rattle.live_run.proofs.jobs.put_clients.Given as goal

abbrev pub invariant-loop-number : goal.invariant-loop-number
invariant-loop-number l = record {
  count : length l.jobs.items ≡ l.number;
  opened : AreOpened l.nodes l.openers l.jobs.items;
  jobs : (mailboxes : List (Mailbox Letter)) → AreJobs l.nodes mailboxes (commands_in l.lines) l.number 0 l.jobs.items;
}
