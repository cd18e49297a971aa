use Rattle.std.proofs.Common.{ℕ, ◌<◌}
use Rattle.std.specs.Prelude.{◌↔◌, IsTrue, slice_index}
use Rattle.op_base.specs.Timestamp.{IsBelowChange}
use Rattle.op_base.proofs.tag.are_below_changes.Given as goal

abbrev pub invariant-loop-x : goal.invariant-loop-x
invariant-loop-x l = IsTrue l.below ↔ ((k : ℕ) → k < l.x → IsBelowChange (slice_index l.parts k) (slice_index l.from k) (slice_index l.to k))
