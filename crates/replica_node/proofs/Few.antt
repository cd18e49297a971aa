-- How many steps receiving makes at most.
use Rattle.std.proofs.Common.{◌≡◌, ◌+◌, ◌≤◌, ℕ, true, false, List, ◌∷◌, [], length, if◌then◌else◌, arith}
use Rattle.op_base.specs.declared.message.Message.{Message}
use Rattle.causal_model.specs.Early.{stands_before, put_early}
use Rattle.causal_model.specs.Receiving.{with_early, steps}
use Rattle.causal_model.specs.State.{State}
use Rattle.causal_model.proofs.States.Steps.{steps_take_messages_out}

length-put_early : (m : Message) (early : List Message) → length (put_early m early) ≡ length early + 1
length-put_early m [] = omega arith
length-put_early m (e ∷ early) =
    let rest = length-put_early m early in
    elim (stands_before m e) as (λ b. length (if b then m ∷ e ∷ early else e ∷ put_early m early) ≡ length (e ∷ early) + 1) [ true ↦ omega arith | false ↦ omega (arith, rest) ]

-- a message that becomes early makes at most a step of each early message, this one among them
pub steps_are_few : (w : ℕ) (s : State) (m : Message) → length (steps w (with_early s m)).0 ≤ length s.early + 1
steps_are_few w s m = omega (arith, steps_take_messages_out w (with_early s m), length-put_early m s.early)
