use Rattle.std.proofs.Common.{◌≡◌, ℕ, ◌<◌, length, get_or}
use Rattle.std.specs.Prelude.{max}
use Rattle.op_base.proofs.tag.Tag.join.Given as goal

abbrev pub invariant-loop-x : goal.invariant-loop-x
invariant-loop-x l = (length l.joined ≡ length l.self) × ((k : ℕ) → k < l.x → get_or l.joined k 0 ≡ max (get_or l.self k 0) (get_or l.other k 0))
