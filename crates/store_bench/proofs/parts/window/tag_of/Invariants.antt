use Rattle.std.proofs.Common.{◌≡◌, length}
use Rattle.store_bench.proofs.parts.window.tag_of.Given as goal

abbrev pub invariant-loop-x : goal.invariant-loop-x
invariant-loop-x l = length l.tag ≡ l.n
