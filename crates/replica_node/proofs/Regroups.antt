-- A node in the next epoch.
use Rattle.std.proofs.Common.{◌≡◌, ◌<◌, ℕ, IsTrue, List, [], ◌∷◌, ◌++◌, sym, subst, ◌∙◌}
use Rattle.std.proofs.lemmas.List.{length_push}
use Rattle.causal_model.specs.History.{is_all_stable}
use Rattle.causal_model.specs.Journal.{regrouped, IsGroup, regrouped_as, IsLegal}
use Rattle.causal_model.specs.State.{State}
use Rattle.causal_model.specs.declared.note.Note.{Note}
use Rattle.causal_model.specs.declared.note.Note.TheVariants.{Regroup}
use Rattle.causal_model.proofs.Events.Histories.{IsHistory-from_test}
use Rattle.replica_core.specs.Rules.{StandsFor}
use Rattle.replica_core.specs.declared.replica.Replica.{Replica}
use Rattle.replica_node.specs.Epochs.{IsNextOf}
use Rattle.replica_node.specs.Nodes.{state_by}
use Rattle.replica_node.proofs.Calls.{Goes, goes_on}

-- what a replica begins the next epoch with, where it can end
pub is_next_of : (first : ℕ × ℕ) (notes : List Note) (r next : Replica) (me n : ℕ) → StandsFor r (state_by first notes) → r.epoch < 65535 → ((s : State) → StandsFor r s → IsTrue (is_all_stable s.history.present)) → next.w ≡ r.w → next.limit ≡ r.limit → next.me ≡ me → next.n ≡ n
    → ((s : State) → StandsFor r s → StandsFor next (regrouped n me s)) → IsNextOf first r.w r.limit notes next
is_next_of first notes r next me n stands early settled same_w same_limit is_me is_n begins =
    let s = state_by first notes in
    record {
      early = subst (λ epoch. epoch < 65535) (sym stands.in_epoch) early;
      rests = settled s stands;
      w = same_w;
      limit = same_limit;
      stands = subst (λ k. StandsFor next (regrouped k next.me s)) (sym is_n) (subst (λ k. StandsFor next (regrouped n k s)) (sym is_me) (begins s stands));
    }

module _ (first : ℕ × ℕ) (w limit : ℕ) (notes : List Note) (next : Replica) (is_next : IsNextOf first w limit notes next) where
  abbrev s : State
  s = state_by first notes

  change_is_group : IsGroup w limit s (Regroup next.epoch next.n next.me ∷ [])
  change_is_group =
      let history = IsHistory-from_test next.w (regrouped next.n next.me s).history is_next.stands.is_state.is_history in
      subst (λ epoch. IsGroup w limit s (Regroup epoch next.n next.me ∷ [])) (sym (length_push s.history.past s.history.present) ∙ is_next.stands.in_epoch)
      (regrouped_as next.n next.me history.few history.member is_next.early is_next.rests)

  -- behind notes that are legal it goes on with its change of members
  pub next_goes_on : ∥ IsLegal first.1 w limit first.0 notes ∥₁ → (after : List Note) → after ≡ notes ++ Regroup next.epoch next.n next.me ∷ [] → Goes next first after
  next_goes_on legal after noted = goes_on w limit next first notes after (Regroup next.epoch next.n next.me ∷ []) is_next.w is_next.limit legal noted change_is_group is_next.stands
