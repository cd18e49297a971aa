use Rattle.std.proofs.Common.{ℕ, ◌-◌, ◌≤◌, length, Bool}
use Rattle.std.specs.Fn.{ComputesKey}
use Rattle.stable_state.proofs.Parting.{IsNarrowed}
use Rattle.stable_state.proofs.chunks.passed.Given as goal

abbrev pub invariant-loop-from : goal.invariant-loop-from
invariant-loop-from g l = (l.from ≤ l.to) × (l.to ≤ length l.slots) × ((p : ℕ → Bool) → ComputesKey g.P.Fn p l.test → IsNarrowed p l.slots l.from l.to)

abbrev pub decreases-loop-from : goal.decreases-loop-from
decreases-loop-from g l = l.to - l.from
