-- What the rule of receiving gives, told from the tests that a replica makes.
use Rattle.std.proofs.Common.{◌≡◌, false, IsTrue, List, Option, Some, None, inl, inr, refl, sym, ap, ap₂, subst, ◌∙◌}
use denote.Struct.Props.{props}
use Rattle.std.proofs.Math.Logic.{∥∥₁_elim}
use Rattle.op_base.specs.declared.message.Message.{Message}
use Rattle.op_base.specs.declared.outcome.Step.{Step}
use Rattle.causal_model.specs.Early.{is_again}
use Rattle.causal_model.specs.Follows.{Follows}
use Rattle.causal_model.specs.Receiving.{is_old, is_far, steps, with_early, refusal_of, accepted, is_accepted, receive_by, receive_rule}
use Rattle.causal_model.specs.State.{State}
use Rattle.causal_model.specs.declared.outcome.Receive.{Receive}
use Rattle.causal_model.specs.declared.outcome.Receive.TheVariants as receive
use Rattle.causal_model.specs.declared.outcome.Refusal.{Refusal}
use Rattle.causal_model.proofs.States.Outcomes.{accepted_is_accepted, unrefused}
use Rattle.replica_core.specs.Rules.{StandsFor, Unchanged}
use Rattle.replica_core.specs.Steps.{HasStepped}
use Rattle.replica_core.specs.declared.replica.Replica.{Replica}
use Rattle.replica_core.proofs.Stands.{unchanged_stands}

-- where nothing is refused in any state, no test holds
module _ (r : Replica) (m : Message) (told : (s : State) → StandsFor r s → refusal_of r.w s m ≡ None) where
  pub new_in : is_old r.me r.counts m ≡ false
  new_in = ∥∥₁_elim r.stands (search props) (λ x. ap₂ (λ me c. is_old me c m) (sym x.1.of_member) x.1.counts ∙ (unrefused r.w x.0 m (told x.0 x.1)).new)

  pub apart_in : is_again r.buffer.early m ≡ false
  apart_in = ∥∥₁_elim r.stands (search props) (λ x. ap (λ early. is_again early m) x.1.buffer.early ∙ (unrefused r.w x.0 m (told x.0 x.1)).apart)

  pub near_in : is_far r.buffer.n r.buffer.w r.me r.counts m ≡ false
  near_in = ∥∥₁_elim r.stands (search props) (λ x.
      ap₂ (λ n w. is_far n w r.me r.counts m) x.1.buffer.members x.1.buffer.window ∙ ap₂ (λ me c. is_far x.0.history.present.n r.w me c m) (sym x.1.of_member) x.1.counts ∙ (unrefused r.w x.0 m (told x.0 x.1)).near)

-- ---- what a call does

-- what is no refusal is none
pub no_refusal : (o : Option Refusal) → ((why : Refusal) → o ≡ Some why → ⊥) → o ≡ None
no_refusal None other = refl
no_refusal (Some why) other = absurd (other why refl)

-- of a message that isn't refused in any state
module _ (old : Replica) (m : Message) (new : Replica) (unrefused_in : (s : State) → StandsFor old s → None ≡ refusal_of old.w s m) where
  by_steps : (s : State) → StandsFor old s → (accepted (steps old.w (with_early s m)).0, (steps old.w (with_early s m)).1) ≡ receive_rule old.w m s
  by_steps s stands = ap (receive_by old.w m s) (unrefused_in s stands)

  -- it is accepted, and answered by the steps that were made
  pub accepted_follows : (made : List Step) → ((s : State) → StandsFor old s → HasStepped old.w (with_early s m) made new) → Follows StandsFor receive.NoMemory is_accepted (receive_rule old.w m) old (accepted made) new
  accepted_follows made stepped s stands =
      let by = by_steps s stands in
      inl (ap accepted (stepped s stands).are ∙ ap (λ (made : Receive × State). made.0) by, subst (StandsFor new) (ap (λ (made : Receive × State). made.1) by) (stepped s stands).stands)

  -- or there was no memory for it
  pub lacking_accepts : Unchanged old new → Follows StandsFor receive.NoMemory is_accepted (receive_rule old.w m) old receive.NoMemory new
  lacking_accepts same s stands =
      let by : accepted (steps old.w (with_early s m)).0 ≡ (receive_rule old.w m s).0 = ap (λ (made : Receive × State). made.0) (by_steps s stands) in
      inr (refl, subst (λ a. IsTrue (is_accepted a)) by (accepted_is_accepted (steps old.w (with_early s m)).0), unchanged_stands old new s same stands)
