use Rattle.std.proofs.Common.{◌≡◌, length}
use Rattle.std.specs.Vec.Iter.{into_iter_items, into_iter_len}
use Rattle.live_run.specs.Joining.{AreClosing}
use Rattle.live_run.proofs.closed.close_all.Given as goal

abbrev pub invariant-loop-node : goal.invariant-loop-node
invariant-loop-node l =
    AreClosing l.fn.nodes.items l.fn.openers.items (into_iter_items l.node-iterator) (into_iter_items l.rest) l.list.items
    × (into_iter_len l.node-iterator ≡ length (into_iter_items l.node-iterator)) × (into_iter_len l.rest ≡ length (into_iter_items l.rest))
