-- What a call answers by the notes: it follows a rule of notes.
use Rattle.std.proofs.Common.{◌≡◌, ℕ, Bool, false, IsTrue, List, [], ◌++◌, refl, sym, ap, subst, ◌∙◌, inl, inr, append-nil}
use Rattle.causal_model.specs.Follows.{Follows}
use Rattle.causal_model.specs.Journal.{local_notes, beat_notes}
use Rattle.causal_model.specs.Sending.{is_sent, is_beat}
use Rattle.causal_model.specs.State.{State}
use Rattle.causal_model.specs.declared.note.Note.{Note}
use Rattle.causal_model.specs.declared.outcome.Local.{Local}
use Rattle.causal_model.specs.declared.outcome.Local.TheVariants as local
use Rattle.causal_model.specs.declared.outcome.Beat.{Beat}
use Rattle.causal_model.specs.declared.outcome.Beat.TheVariants as beat
use Rattle.replica_core.specs.Rules.{StandsFor}
use Rattle.replica_core.specs.declared.replica.Replica.{Replica}
use Rattle.replica_node.specs.Nodes.{state_by}
use Rattle.replica_node.specs.Rules.{noting}

module _ {A : Type 0} (no_memory : A) (takes_memory : A → Bool) (notes_of : A → List Note) (rule : State → A × State) (first : ℕ × ℕ) (before after : List Note) where
  -- the answer is the rule's, and its notes were put
  pub noted_follows : (answer : A) → answer ≡ (rule (state_by first before)).0 → after ≡ before ++ notes_of answer
      → Follows (λ (there ns : List Note). there ≡ ns) no_memory takes_memory (noting first notes_of rule) before answer after
  noted_follows answer is noted = λ ns same. inl
      (subst (λ ns. (answer ≡ (rule (state_by first ns)).0) × (after ≡ ns ++ notes_of (rule (state_by first ns)).0)) same (is, noted ∙ ap (λ a. before ++ notes_of a) is))

  -- the answer is the rule's, and notes nothing
  pub unnoted_follows : (answer : A) → answer ≡ (rule (state_by first before)).0 → notes_of answer ≡ [] → after ≡ before
      → Follows (λ (there ns : List Note). there ≡ ns) no_memory takes_memory (noting first notes_of rule) before answer after
  unnoted_follows answer is none kept = noted_follows answer is (kept ∙ sym (append-nil before) ∙ ap (λ ns. before ++ ns) (sym none))

  -- there was no memory for what the rule would have done
  pub lacking_follows : IsTrue (takes_memory (rule (state_by first before)).0) → after ≡ before
      → Follows (λ (there ns : List Note). there ≡ ns) no_memory takes_memory (noting first notes_of rule) before no_memory after
  lacking_follows takes kept = λ ns same. inr (refl, subst (λ ns. IsTrue (takes_memory (rule (state_by first ns)).0)) same takes, kept ∙ same)

  -- an answer that notes nothing was told by a replica
  pub told_follows : (r : Replica) (answer : A) → StandsFor r (state_by first before) → Follows StandsFor no_memory takes_memory (λ s. ((rule s).0, s)) r answer r
      → notes_of answer ≡ [] → after ≡ before → Follows (λ (there ns : List Note). there ≡ ns) no_memory takes_memory (noting first notes_of rule) before answer after
  told_follows r answer stands told none kept = elim (told (state_by first before) stands) [
    | inl is ↦ unnoted_follows answer is.0 none kept
    | inr lacks ↦ subst (λ a. Follows (λ (there ns : List Note). there ≡ ns) no_memory takes_memory (noting first notes_of rule) before a after) (sym lacks.0) (lacking_follows lacks.1 kept)
  ]

-- what isn't sent notes nothing
pub unsent_notes_nothing : (answer : Local) → is_sent answer ≡ false → local_notes answer ≡ []
unsent_notes_nothing (local.Sent m) e = cc
unsent_notes_nothing local.Busy e = refl
unsent_notes_nothing local.End e = refl
unsent_notes_nothing local.NoMemory e = refl

pub unbeaten_notes_nothing : (answer : Beat) → is_beat answer ≡ false → beat_notes answer ≡ []
unbeaten_notes_nothing (beat.Sent m) e = cc
unbeaten_notes_nothing beat.Quiet e = refl
unbeaten_notes_nothing beat.Held e = refl
unbeaten_notes_nothing beat.End e = refl
unbeaten_notes_nothing beat.NoMemory e = refl
