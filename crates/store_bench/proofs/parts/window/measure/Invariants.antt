use Rattle.std.proofs.Common.{◌≡◌, length}
use Rattle.store_bench.proofs.parts.window.measure.Given as goal

abbrev pub invariant-loop : goal.invariant-loop
invariant-loop l = (length l.window.held ≡ l.n) × (l.window.w ≡ l.w)

abbrev pub invariant-loop-origin : goal.invariant-loop-origin
invariant-loop-origin l = (length l.window.held ≡ l.n) × (l.window.w ≡ l.w)
