use Rattle.std.proofs.Common.{◌≡◌, length}
use Rattle.store_bench.proofs.parts.window.empty.Given as goal

abbrev pub invariant-loop-done : goal.invariant-loop-done
invariant-loop-done l = (length l.window.held ≡ l.n) × (l.window.w ≡ l.initial.window.w) × (length l.stable ≡ l.n)

abbrev pub invariant-loop-origin : goal.invariant-loop-origin
invariant-loop-origin l = (length l.window.held ≡ l.n) × (l.window.w ≡ l.initial.window.w) × (length l.stable ≡ l.n)
