-- What a node's notes and replica are after a call that noted a group.
use Rattle.std.proofs.Common.{◌≡◌, ℕ, IsTrue, List, ◌∷◌, ◌++◌, map, None, sym, ap, subst, ◌∙◌}
use Rattle.std.proofs.lemmas.List.Sums.{fold-append}
use Rattle.std.proofs.Math.Logic.{∥∥₁_map}
use Rattle.op_base.specs.Message.{fits}
use Rattle.op_base.specs.declared.message.Message.{Message}
use Rattle.op_base.specs.declared.outcome.Step.{Step}
use Rattle.causal_model.specs.Counts.{is_carried}
use Rattle.causal_model.specs.Journal.{state_noted, state_after, step_note, receive_notes, IsGroup, received, IsLegal}
use Rattle.causal_model.specs.Receiving.{with_early, steps, refusal_of, receive_by}
use Rattle.causal_model.specs.State.{State, start}
use Rattle.causal_model.specs.declared.note.Note.{Note}
use Rattle.causal_model.specs.declared.note.Note.TheVariants.{Kept}
use Rattle.causal_model.proofs.States.Journals.{receiving_replays, legal_grows}
use Rattle.causal_model.proofs.States.Outcomes.{notes_of_accepted}
use Rattle.replica_core.specs.Rules.{StandsFor, Unchanged}
use Rattle.replica_core.specs.Steps.{HasAdded}
use Rattle.replica_core.proofs.Stands.{unchanged_stands}
use Rattle.replica_core.specs.declared.replica.Replica.{Replica}
use Rattle.replica_node.specs.Nodes.{state_by}

-- the facts of a node that has these notes
pub record Goes (new : Replica) (first : ℕ × ℕ) (after : List Note) : Type 0 where
  pub legal : ∥ IsLegal first.1 new.w new.limit first.0 after ∥₁
  pub stands : StandsFor new (state_by first after)

-- they hold where a group was noted, and the replica stands for what it makes of the state
pub goes_on : (w limit : ℕ) (new : Replica) (first : ℕ × ℕ) (before after group : List Note) → new.w ≡ w → new.limit ≡ limit → ∥ IsLegal first.1 w limit first.0 before ∥₁
    → after ≡ before ++ group → IsGroup w limit (state_by first before) group → StandsFor new (state_after (state_by first before) group) → Goes new first after
goes_on w limit new first before after group same_w same_limit legal noted is stands = record {
  legal = rw (same_w, same_limit, noted) (∥∥₁_map legal (λ l. legal_grows first.1 w limit first.0 before group l is));
  stands = subst (StandsFor new) (sym (ap (λ ns. state_by first ns) noted ∙ fold-append state_noted (start first.1 first.0) before group)) stands;
}

-- and where nothing was noted, and nothing of the replica changed
pub nothing_goes_on : (old new : Replica) (first : ℕ × ℕ) (before after : List Note) → Unchanged old new → after ≡ before → ∥ IsLegal first.1 old.w old.limit first.0 before ∥₁ → StandsFor old (state_by first before)
    → Goes new first after
nothing_goes_on old new first before after same kept legal stands = record {
  legal = rw (same.settings.w, same.settings.limit, kept) legal;
  stands = subst (λ notes. StandsFor new (state_by first notes)) (sym kept) (unchanged_stands old new (state_by first before) same stands);
}

-- the steps are those of the state also where room was taken before, behind those that there were
pub added_with_room : (old ready new : Replica) (s : State) (m : Message) (before taken all : List Step) → Unchanged old ready → taken ≡ before → StandsFor old s
    → ((s : State) → StandsFor ready s → HasAdded ready.w (with_early s m) taken all new) → HasAdded old.w (with_early s m) before all new
added_with_room old ready new s m before taken all same kept stands added =
    subst (λ before. HasAdded old.w (with_early s m) before all new) kept
    (subst (λ w. HasAdded w (with_early s m) taken all new) same.settings.w (added s (unchanged_stands old ready s same stands)))

-- a message that isn't refused, with its steps, is a group, and its notes make of the state what accepting it does
module _ (r : Replica) (s : State) (m : Message) (stands : StandsFor r s) (fit : IsTrue (fits r.n m)) (carried : IsTrue (is_carried r.limit m)) (unrefused : refusal_of r.w s m ≡ None) where
  fit_there : IsTrue (fits s.history.present.n m)
  fit_there = subst (λ n. IsTrue (fits n m)) (sym stands.of_store) fit

  pub accepting_is_group : IsGroup r.w r.limit s (Kept m ∷ map step_note (steps r.w (with_early s m)).0)
  accepting_is_group = received m fit_there carried unrefused

  pub accepting_replays : state_after s (Kept m ∷ map step_note (steps r.w (with_early s m)).0) ≡ (steps r.w (with_early s m)).1
  accepting_replays =
      sym (ap (state_after s) (notes_of_accepted m (steps r.w (with_early s m)).0))
      ∙ subst (λ o. state_after s (receive_notes m (receive_by r.w m s o).0) ≡ (receive_by r.w m s o).1) unrefused (receiving_replays r.w r.limit s m stands.is_state fit_there carried)
