-- The steps of receiving: each takes an early message out, more fuel than there are early messages changes nothing, and
-- after the last step none can be delivered.
use Rattle.std.proofs.Common.{◌≡◌, ℕ, zero, suc, ◌+◌, ◌<◌, ◌≤◌, true, not, ◌==◌, List, [], ◌∷◌, length, refl, sym, ap, ◌∙◌, Option, Some, None, arith}
use Rattle.std.proofs.lemmas.Bool.{and_from, eq-eqb}
use Rattle.op_base.specs.Message.{number, id_of}
use Rattle.op_base.specs.declared.message.Message.{Message}
use Rattle.op_base.specs.declared.outcome.Step.{Step}
use Rattle.causal_model.specs.Counts.{is_deliverable}
use Rattle.causal_model.specs.Receiving.{next_early, crook_after, state_with, step_of, steps_within, steps, next_of}
use Rattle.causal_model.specs.State.{State, counted}
use Rattle.causal_model.specs.Early.{has_id}
use Rattle.causal_model.proofs.Theory.Finds.{found, fewer_pass}

pub has_own_id : (m : Message) → has_id (id_of m) m ≡ true
has_own_id m = and_from (m.origin == m.origin) (number m == number m) (eq-eqb m.origin m.origin refl) (eq-eqb (number m) (number m) refl)

taken_leaves_fewer : (w : ℕ) (s : State) (m : Message) → next_of s ≡ Some m → length (state_with w s m).early < length s.early
taken_leaves_fewer w s m e =
    let there = found (is_deliverable s.history.present.n (counted s.history)) s.early m e in
    fewer_pass (λ other. not (has_id (id_of m) other)) s.early m there.0 (ap not (has_own_id m))

none_of_none : (s : State) → length s.early ≤ 0 → next_of s ≡ None
none_of_none s l = by s.early l where
  by : (early : List Message) → length early ≤ 0 → next_early s.history.present.n (counted s.history) early ≡ None
  by [] k = refl
  by (m ∷ early) k = absurd (omega (arith, k))

-- the steps that begin with taking a message, where there is one to take
abbrev pub steps_by : ℕ → ℕ → State → Option Message → List Step × State
steps_by w most s None = ([], s)
steps_by w most s (Some m) = (step_of m (crook_after w s.history m) ∷ (steps_within w most (state_with w s m)).0, (steps_within w most (state_with w s m)).1)

steps_within-none : (w most : ℕ) (s : State) → next_of s ≡ None → steps_within w most s ≡ ([], s)
steps_within-none w zero s e = refl
steps_within-none w (suc most) s e = ap (steps_by w most s) e

-- as much fuel as there are early messages is enough
fuel_suffices : (w most more : ℕ) (s : State) → length s.early ≤ most → length s.early ≤ more → steps_within w most s ≡ steps_within w more s
fuel_suffices w zero more s l k = sym (steps_within-none w more s (none_of_none s l))
fuel_suffices w (suc most) zero s l k = steps_within-none w (suc most) s (none_of_none s k)
fuel_suffices w (suc most) (suc more) s l k = by (fuel_suffices w most more) (next_of s) refl where
  by : ((g : State) → length g.early ≤ most → length g.early ≤ more → steps_within w most g ≡ steps_within w more g) → (o : Option Message) → next_of s ≡ o → steps_by w most s o ≡ steps_by w more s o
  by later None is = refl
  by later (Some m) is =
      let left = taken_leaves_fewer w s m is in
      ap (λ made. (step_of m (crook_after w s.history m) ∷ made.0, made.1)) (later (state_with w s m) (omega (arith, left, l)) (omega (arith, left, k)))

-- the steps of a state are the next one, where there is one, and those of the state after it
pub steps_of_none : (w : ℕ) (s : State) → next_of s ≡ None → steps w s ≡ ([], s)
steps_of_none w s e = steps_within-none w (length s.early) s e

steps_within-one_more : (w most : ℕ) (s : State) (m : Message) → length s.early ≤ most → next_of s ≡ Some m
    → steps_within w most s ≡ (step_of m (crook_after w s.history m) ∷ (steps w (state_with w s m)).0, (steps w (state_with w s m)).1)
steps_within-one_more w zero s m l e = absurd (omega (arith, l, taken_leaves_fewer w s m e))
steps_within-one_more w (suc most) s m l e =
    let after = state_with w s m in
    let enough = fuel_suffices w most (length after.early) after (omega (arith, l, taken_leaves_fewer w s m e)) (omega arith) in
    ap (steps_by w most s) e ∙ ap (λ made. (step_of m (crook_after w s.history m) ∷ made.0, made.1)) enough

pub steps_of_one_more : (w : ℕ) (s : State) (m : Message) → next_of s ≡ Some m
    → steps w s ≡ (step_of m (crook_after w s.history m) ∷ (steps w (state_with w s m)).0, (steps w (state_with w s m)).1)
steps_of_one_more w s m e = steps_within-one_more w (length s.early) s m (omega arith) e

-- ---- the end

-- after at most so many steps none can be delivered, and each step took a message out
record HasEnded (s : State) (made : List Step × State) : Type 0 where
  none : next_of made.1 ≡ None
  fewer : length made.0 + length made.1.early ≤ length s.early

steps_within_end : (w most : ℕ) (s : State) → length s.early ≤ most → HasEnded s (steps_within w most s)
steps_within_end w zero s l = record { none = none_of_none s l; fewer = omega arith }
steps_within_end w (suc most) s l = by (steps_within_end w most) (next_of s) refl where
  by : ((g : State) → length g.early ≤ most → HasEnded g (steps_within w most g)) → (o : Option Message) → next_of s ≡ o → HasEnded s (steps_by w most s o)
  by later_end None is = record { none = is; fewer = omega arith }
  by later_end (Some m) is =
      let left = taken_leaves_fewer w s m is in
      let later = later_end (state_with w s m) (omega (arith, left, l)) in
      record { none = later.none; fewer = omega (arith, later.fewer, left) }

pub none_is_next_after_steps : (w : ℕ) (s : State) → next_of (steps w s).1 ≡ None
none_is_next_after_steps w s = (steps_within_end w (length s.early) s (omega arith)).none

pub steps_take_messages_out : (w : ℕ) (s : State) → length (steps w s).0 + length (steps w s).1.early ≤ length s.early
steps_take_messages_out w s = (steps_within_end w (length s.early) s (omega arith)).fewer
