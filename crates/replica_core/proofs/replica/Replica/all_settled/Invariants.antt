use Rattle.std.proofs.Common.{◌≡◌, ◌<◌, ℕ}
use Rattle.causal_model.specs.State.{State}
use Rattle.causal_model.specs.Stability.{unstable_operations}
use Rattle.replica_core.specs.Rules.{StandsFor}
use Rattle.replica_core.proofs.replica.Replica.all_settled.Given as goal

-- no member below this has an unstable operation
abbrev pub invariant-loop-x : goal.invariant-loop-x
invariant-loop-x l = (s : State) → StandsFor l.fn.self s → (y : ℕ) → y < l.x → unstable_operations l.fn.self.n l.fn.self.me s.history.present.messages y ≡ 0
