use Rattle.std.proofs.Common.{◌≡◌, ℕ, ◌<◌, false, nat_lt}
use Rattle.op_base.specs.Timestamp.{entry}
use Rattle.tag_window.proofs.window.first_below.Given as goal

abbrev pub invariant-loop-x : goal.invariant-loop-x
invariant-loop-x l = (y : ℕ) → y < l.x → nat_lt (entry l.got y) (entry l.had y) ≡ false
