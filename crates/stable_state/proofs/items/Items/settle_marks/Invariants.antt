use Rattle.std.proofs.Common.{◌≡◌, ◌≤◌, length}
use Rattle.stable_state.specs.Settling.{put_in_by, AreSettled}
use Rattle.stable_state.proofs.items.Items.settle_marks.Given as goal

abbrev pub invariant-loop-left : goal.invariant-loop-left
invariant-loop-left l = record {
  count : length l.self.shelf.touched ≡ l._left;
  settled : AreSettled (put_in_by l.entries) l.initial.self.shelf l.self.shelf;
  spare : l.initial.self.shelf.spare ≤ l.self.shelf.spare;
  near : l.near ≤ length l.entries;
}
