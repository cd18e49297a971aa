use Rattle.std.proofs.Common.{◌≡◌, length}
use Rattle.live_run.specs.Opening.{AreFirsts}
use Rattle.live_run.proofs.boxes.open_mailboxes.Given as goal

abbrev pub invariant-loop-member : goal.invariant-loop-member
invariant-loop-member l = record {
  of_each : length l.mailboxes.items ≡ l._member;
  firsts : AreFirsts 0 l.mailboxes.items l.firsts.items;
}
