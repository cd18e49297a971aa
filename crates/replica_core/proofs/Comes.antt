-- A message that comes and is next at once.
use Rattle.std.proofs.Common.{◌≡◌, ℕ, true, false, not, IsTrue, List, [], ◌∷◌, Some, refl, sym, ap, subst, ◌∙◌}
use Rattle.std.proofs.lemmas.Bool.{cond-true, cond-false, cond_both, or_parts}
use Rattle.op_base.specs.Message.{id_of}
use Rattle.op_base.specs.declared.message.Message.{Message}
use Rattle.causal_model.specs.Counts.{is_deliverable, is_carried}
use Rattle.causal_model.specs.Early.{has_id, is_again, stands_before, put_early, without}
use Rattle.causal_model.specs.Order.{same_id}
use Rattle.causal_model.specs.Receiving.{next_early, with_early}
use Rattle.causal_model.specs.State.{State}
use Rattle.causal_model.specs.States.{IsState}
use Rattle.causal_model.proofs.Theory.Finds.{found}
use Rattle.causal_model.proofs.States.Steps.{has_own_id}
use Rattle.causal_buffer.specs.Standing.{KeepKeepsState}
use Rattle.replica_core.specs.Rules.{fields_of}
use Rattle.replica_core.specs.Standing.{Fields, Standing}
use Rattle.replica_core.specs.Steps.{IsNextOf}
use Rattle.replica_core.specs.declared.replica.Replica.{Replica}

-- what is next can be delivered
pub next_can_be_delivered : (n : ℕ) (counted : List ℕ) (early : List Message) (m : Message) → next_early n counted early ≡ Some m → is_deliverable n counted m ≡ true
next_can_be_delivered n counted early m next = (found (is_deliverable n counted) early m next).1

-- where no early message has its id, it is put among them and taken out again
module _ (m : Message) where
  none_goes : (early : List Message) → is_again early m ≡ false → without (id_of m) early ≡ early
  none_goes [] apart = refl
  none_goes (e ∷ early) apart =
      let parts = or_parts (same_id m e) (is_again early m) apart in
      cond-true (not (has_id (id_of m) e)) (e ∷ without (id_of m) early) (without (id_of m) early) (ap not parts.0) ∙ ap (λ l. e ∷ l) (none_goes early parts.1)

  it_goes : (early : List Message) → without (id_of m) (m ∷ early) ≡ without (id_of m) early
  it_goes early = cond-false (not (has_id (id_of m) m)) (m ∷ without (id_of m) early) (without (id_of m) early) (ap not (has_own_id m))

  without-put_early : (early : List Message) → is_again early m ≡ false → without (id_of m) (put_early m early) ≡ early
  without-put_early [] apart = it_goes []
  without-put_early (e ∷ early) apart =
      let parts = or_parts (same_id m e) (is_again early m) apart in
      let rest = without-put_early early parts.1 in
      cond_both (stands_before m e) (m ∷ e ∷ early) (e ∷ put_early m early) (λ l. without (id_of m) l ≡ e ∷ early) (λ _. it_goes (e ∷ early) ∙ none_goes (e ∷ early) apart)
      (λ _. cond-true (not (has_id (id_of m) e)) (e ∷ without (id_of m) (put_early m early)) (without (id_of m) (put_early m early)) (ap not parts.0) ∙ ap (λ l. e ∷ l) rest)

-- So it is the next of a state that a replica can be in, where it can be carried and is neither old nor far, and the fields
-- stand for the state without it.
pub comes_as_next : (f : Fields) (s : State) (m : Message) → Standing f s → KeepKeepsState f.me f.counts m f.buffer → IsTrue (is_carried f.limit m) → is_again f.buffer.early m ≡ false
    → next_early f.buffer.n f.counts (put_early m f.buffer.early) ≡ Some m → (r : Replica) → fields_of r ≡ f → IsNextOf r m (with_early s m)
comes_as_next f s m stands keeps carried apart next r is = record {
  is_state = subst (λ (g : Fields). IsState g.w g.limit (with_early s m)) (sym is) (keeps f.w f.limit s stands.is_state stands.buffer (record { member = sym stands.of_member; delivered = stands.counts }) carried);
  next = (λ i. next_early (sym stands.buffer.members i) (sym stands.counts i) (put_early m (sym stands.buffer.early i))) ∙ next;
  left = subst (λ g. Standing g (record { history = s.history; early = without (id_of m) (put_early m s.early) })) (sym is)
      (subst (λ early. Standing f (record { history = s.history; early = early })) (sym (without-put_early m s.early (subst (λ early. is_again early m ≡ false) stands.buffer.early apart))) stands);
}
