use Rattle.std.proofs.Common.{◌≡◌, ◌≤◌, ℕ, List, drop, length}
use Rattle.std.specs.Vec.Iter.{into_iter_items, into_iter_len}
use Rattle.mailboxes.specs.declared.mailbox.Mailbox.{Mailbox}
use Rattle.replica_lock.specs.declared.pass.Settings.{Settings}
use Rattle.turn_lock.specs.Turns.{LockState}
use Rattle.live_run.specs.Ended.{AreLocks}
use Rattle.live_run.specs.Returned.{AreDone}
use Rattle.live_run.specs.declared.input.NumberedLine.{NumberedLine}
use Rattle.live_run.specs.declared.letter.Letter.{Letter}
use Rattle.live_run.proofs.Returns.{Have}
use Rattle.live_run.proofs.returned.take_apart.Given as goal

abbrev pub invariant-loop-done : goal.invariant-loop-done
invariant-loop-done l = record {
  inside : length l.returned.backs.items ≤ length l.fn.results.items;
  left : into_iter_items l.done-iterator ≡ drop (length l.returned.backs.items) l.fn.results.items;
  len : into_iter_len l.done-iterator ≡ length (into_iter_items l.done-iterator);
  have : (nodes : List (LockState Settings)) (mailboxes : List (Mailbox Letter)) (lines : List NumberedLine) (w clients : ℕ) → AreLocks (length nodes) w nodes → AreDone nodes mailboxes lines clients l.fn.results.items
      → Have nodes mailboxes lines w clients (length l.returned.backs.items) l.returned;
}
