use Rattle.std.proofs.Common.{◌≡◌, ◌≤◌, drop, length}
use Rattle.std.specs.Vec.Iter.{into_iter_items, into_iter_len}
use Rattle.live_run.specs.Meeting.{HaveJoined}
use Rattle.live_run.proofs.boxes.join_row.Given as goal

abbrev pub invariant-loop-mail : goal.invariant-loop-mail
invariant-loop-mail l = record {
  inside : l.x ≤ length l.fn.row.items;
  left : into_iter_items l.mail-iterator ≡ drop l.x l.fn.row.items;
  len : into_iter_len l.mail-iterator ≡ length (into_iter_items l.mail-iterator);
  joined : HaveJoined l.x l.fn.firsts l.fn.row.items l.firsts;
}
