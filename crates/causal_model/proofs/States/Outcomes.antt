-- What the answers of receiving tell: the steps that were made, and whether a message was accepted.
use Rattle.std.proofs.Common.{◌≡◌, ℕ, Bool, true, false, List, [], ◌∷◌, map, refl, Some, None, if◌then◌else◌}
use Rattle.op_base.specs.declared.message.Message.{Message}
use Rattle.op_base.specs.declared.outcome.Step.{Step}
use Rattle.causal_model.specs.Early.{is_again}
use Rattle.causal_model.specs.Journal.{step_note, receive_notes}
use Rattle.causal_model.specs.Receiving.{is_old, is_far, refusal_of, refused, accepted, steps_of, is_accepted}
use Rattle.causal_model.specs.State.{State, counted}
use Rattle.causal_model.specs.declared.note.Note.TheVariants.{Kept}
use Rattle.causal_model.specs.declared.outcome.Refusal.{Refusal}
use Rattle.causal_model.specs.declared.outcome.Refusal.TheVariants as refusal

pub steps_of_accepted : (made : List Step) → steps_of (accepted made) ≡ made
steps_of_accepted [] = refl
steps_of_accepted (step ∷ steps) = refl

pub accepted_is_accepted : (made : List Step) → is_accepted (accepted made) ≡ true
accepted_is_accepted [] = refl
accepted_is_accepted (step ∷ steps) = refl

pub steps_of_refused : (r : Refusal) → steps_of (refused r) ≡ []
steps_of_refused refusal.Old = refl
steps_of_refused refusal.Again = refl
steps_of_refused refusal.Far = refl

pub refused_is_not_accepted : (r : Refusal) → is_accepted (refused r) ≡ false
refused_is_not_accepted refusal.Old = refl
refused_is_not_accepted refusal.Again = refl
refused_is_not_accepted refusal.Far = refl

pub notes_of_accepted : (m : Message) (made : List Step) → receive_notes m (accepted made) ≡ Kept m ∷ map step_note made
notes_of_accepted m [] = refl
notes_of_accepted m (step ∷ steps) = refl

pub notes_of_refused : (m : Message) (r : Refusal) → receive_notes m (refused r) ≡ []
notes_of_refused m refusal.Old = refl
notes_of_refused m refusal.Again = refl
notes_of_refused m refusal.Far = refl

-- a message that isn't refused: it is neither old nor early already nor far
pub record IsUnrefused (w : ℕ) (s : State) (m : Message) : Type 0 where
  pub new : is_old s.history.present.me (counted s.history) m ≡ false
  pub apart : is_again s.early m ≡ false
  pub near : is_far s.history.present.n w s.history.present.me (counted s.history) m ≡ false

pub unrefused : (w : ℕ) (s : State) (m : Message) → refusal_of w s m ≡ None → IsUnrefused w s m
unrefused w s m e = by (is_old s.history.present.me (counted s.history) m) (is_again s.early m) (is_far s.history.present.n w s.history.present.me (counted s.history) m) refl refl refl e where
  by : (a b c : Bool) → is_old s.history.present.me (counted s.history) m ≡ a → is_again s.early m ≡ b → is_far s.history.present.n w s.history.present.me (counted s.history) m ≡ c
      → (if a then Some refusal.Old else if b then Some refusal.Again else if c then Some refusal.Far else None) ≡ None → IsUnrefused w s m
  by true b c is_a is_b is_c f = cc
  by false true c is_a is_b is_c f = cc
  by false false true is_a is_b is_c f = cc
  by false false false is_a is_b is_c f = record { new = is_a; apart = is_b; near = is_c }
