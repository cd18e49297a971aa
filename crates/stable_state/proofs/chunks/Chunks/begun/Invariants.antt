use Rattle.std.proofs.Common.{ℕ, ◌-◌, ◌≤◌, length, Bool}
use Rattle.std.specs.Fn.{ComputesKey}
use Rattle.stable_state.specs.Chunks.{first_passes}
use Rattle.stable_state.proofs.Parting.{IsNarrowed}
use Rattle.stable_state.proofs.chunks.Chunks.begun.Given as goal

abbrev pub invariant-loop-from : goal.invariant-loop-from
invariant-loop-from g l = (l.from ≤ l.to) × (l.to ≤ length l.self.parts) × ((p : ℕ → Bool) → ComputesKey g.P.Fn p l.test → IsNarrowed (first_passes p) l.self.parts l.from l.to)

abbrev pub decreases-loop-from : goal.decreases-loop-from
decreases-loop-from g l = l.to - l.from
