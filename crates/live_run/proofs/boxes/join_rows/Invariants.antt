use Rattle.std.proofs.Common.{◌≡◌, ◌++◌, List, length, map}
use Rattle.std.specs.Vec.Iter.{into_iter_items, into_iter_len}
use Rattle.live_run.proofs.Mailing.{AreMeeting}
use Rattle.live_run.proofs.boxes.join_rows.Given as goal

abbrev pub invariant-loop-row : goal.invariant-loop-row
invariant-loop-row l = record {
  len : into_iter_len l.row-iterator ≡ length (into_iter_items l.row-iterator);
  met : (done : List _) × (l.fn.rows.items ≡ done ++ into_iter_items l.row-iterator) × AreMeeting (length l.fn.rows.items) l.mailboxes (map (λ row. row.items) done) l.firsts;
}
