-- The steps of receiving, some of which were made.
use Rattle.std.proofs.Common.{◌≡◌, ℕ, ◌+◌, ◌<◌, ◌≤◌, length, List, [], ◌∷◌, ◌++◌, refl, sym, ap, subst, ◌∙◌, append_assoc, Option, Some, None, arith}
use Rattle.std.proofs.lemmas.List.{append-nil, length-append, length_push}
use Rattle.op_base.specs.declared.message.Message.{Message}
use Rattle.op_base.specs.declared.outcome.Step.{Step}
use Rattle.causal_model.specs.Receiving.{next_of, state_with, steps}
use Rattle.causal_model.specs.State.{State}
use Rattle.causal_model.proofs.States.Steps.{steps_of_none, steps_of_one_more}
use Rattle.replica_core.specs.Rules.{StandsFor, SameSettings}
use Rattle.replica_core.specs.Steps.{behind, HasMade, HasAdded, HasRoomToStep, IsStepOf}
use Rattle.replica_core.specs.declared.replica.Replica.{Replica}

-- the steps of a state are one that is made, and those of the state after it
one_and_more : (w : ℕ) (s : State) (step : Step) (new : Replica) (is : IsStepOf w s step new) → steps w s ≡ behind (step ∷ []) (steps w (state_with w s is.message))
one_and_more w s step new is = steps_of_one_more w s is.message is.next ∙ ap (λ (made : Step). behind (made ∷ []) (steps w (state_with w s is.message))) (sym is.is)

-- after the first, behind those that there were
pub first_is_made : (w : ℕ) (s : State) (before : List Step) (step : Step) (new : Replica) → IsStepOf w s step new → HasMade w s before (before ++ step ∷ []) new
first_is_made w s before step new is =
    let later = steps w (state_with w s is.message) in
    record {
      after = state_with w s is.message;
      stands = is.stands;
      is = ap (behind before) (one_and_more w s step new is) ∙ ap (λ (all : List Step). (all, later.1)) (sym (append_assoc before (step ∷ []) later.0));
    }

-- after one more
pub one_more_is_made : (w : ℕ) (s : State) (before made : List Step) (now new : Replica) (step : Step) (has : HasMade w s before made now) → IsStepOf w has.after step new → HasMade w s before (made ++ step ∷ []) new
one_more_is_made w s before made now new step has next =
    let first = first_is_made w has.after made step new next in
    record { after = first.after; stands = first.stands; is = has.is ∙ first.is }

-- where no early message can be delivered, all are made
pub all_are_made : (w : ℕ) (s : State) (before made : List Step) (now : Replica) (has : HasMade w s before made now) (new : Replica) → next_of has.after ≡ None → StandsFor new has.after → HasAdded w s before made new
all_are_made w s before made now has new none stands =
    let all : behind before (steps w s) ≡ (made, has.after)
    = has.is ∙ ap (behind made) (steps_of_none w has.after none) ∙ ap (λ (all : List Step). (all, has.after)) (append-nil made) in
    record {
      are = sym (ap (λ (some : List Step × State). some.0) all);
      stands = subst (StandsFor new) (sym (ap (λ (some : List Step × State). some.1) all)) stands;
    }

-- so they are where those after the ones that were made are added to these
pub rest_is_added : (w : ℕ) (s : State) (before made all : List Step) (now new : Replica) (has : HasMade w s before made now) → HasAdded w has.after made all new → HasAdded w s before all new
rest_is_added w s before made all now new has added = record {
  are = added.are ∙ sym (ap (λ (some : List Step × State). some.0) has.is);
  stands = subst (StandsFor new) (sym (ap (λ (some : List Step × State). some.1) has.is)) added.stands;
}

-- where there is none, none can be delivered
pub none_of_no_steps : (w : ℕ) (s : State) → length (steps w s).0 ≤ 0 → next_of s ≡ None
none_of_no_steps w s none = by (next_of s) refl where
  by : (o : Option Message) → next_of s ≡ o → o ≡ None
  by None is = refl
  by (Some m) is = absurd (omega (arith, none, ap (λ (made : List Step × State). length made.0) (steps_of_one_more w s m is)))

-- where a message is next there is one, for which there is room
pub next_has_room : (w : ℕ) (s : State) (m : Message) (made : List Step) (capacity : ℕ) → next_of s ≡ Some m → length made + length (steps w s).0 ≤ capacity → length made < capacity
next_has_room w s m made capacity next room = omega (arith, room, ap (λ (made : List Step × State). length made.0) (steps_of_one_more w s m next))

-- and there is for those that are left once it is made
pub left_have_room : (w : ℕ) (s : State) (made : List Step) (step : Step) (new : Replica) (capacity : ℕ) (is : IsStepOf w s step new) → length made + length (steps w s).0 ≤ capacity
    → length (made ++ step ∷ []) + length (steps w (state_with w s is.message)).0 ≤ capacity
left_have_room w s made step new capacity is room =
    omega (arith, room, length_push made step, ap (λ (all : List Step × State). length all.0) (one_and_more w s step new is))

-- so where some were made of a state, and there was room for all
pub rest_has_room : (w : ℕ) (s : State) (before made : List Step) (now : Replica) (capacity : ℕ) (has : HasMade w s before made now) → length before + length (steps w s).0 ≤ capacity → length made + length (steps w has.after).0 ≤ capacity
rest_has_room w s before made now capacity has room =
    omega (arith, room, ap (λ (all : List Step × State). length all.0) has.is, length-append before (steps w s).0, length-append made (steps w has.after).0)

-- a replica makes the steps that can be made from what it was, and there is room for those of the early messages
pub record IsMaking (old now : Replica) (before made : List Step) (capacity : ℕ) : Type 0 where
  pub settings : SameSettings old now
  pub room : HasRoomToStep now made capacity
  pub are_made : (s : State) → StandsFor old s → HasMade old.w s before made now
