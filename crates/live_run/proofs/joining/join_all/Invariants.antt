use Rattle.std.proofs.Common.{◌≡◌, ℕ, ◌<◌, length, All}
use Rattle.std.specs.List.{slice_index_or}
use Rattle.std.specs.Vec.Iter.{into_iter_items}
use Rattle.live_run.specs.Joining.{AreOut, IsBack, NodeOpener, taken_back}
use Rattle.live_run.proofs.joining.join_all.Given as goal

abbrev pub invariant-loop-back : goal.invariant-loop-back
invariant-loop-back l =
    AreOut l.nodes l.openers (into_iter_items l.back-iterator) × All (IsBack l.nodes) (into_iter_items l.back-iterator)
    × ((r : ℕ) (e : NodeOpener) → r < length l.nodes → taken_back r (into_iter_items l.back-iterator) (slice_index_or l.openers r e) ≡ taken_back r l.fn.backs.items (slice_index_or l.fn.openers r e))
