-- What a node's send promises of its notes, by what comes of the draft.
use Rattle.std.proofs.Common.{◌≡◌, ◌⊎◌, ◌<◌, ◌&&◌, ◌==◌, nat_lt, ℕ, Bool, false, IsTrue, List, [], ◌∷◌, ◌++◌, map, length, All, refl, sym, ap, subst, ◌∙◌, inl, inr, append-nil, arith}
use Rattle.std.proofs.lemmas.Bool.{true≢false, and_parts, eqb-true, ltb-true}
use Rattle.std.proofs.lemmas.List.Elements.{All-nil}
use Rattle.op_base.specs.Message.{fits, number}
use Rattle.op_base.specs.declared.message.Message.{Message}
use Rattle.op_base.specs.declared.operation.Update.{Update}
use Rattle.causal_model.specs.Follows.{Follows}
use Rattle.causal_model.specs.Journal.{local_notes}
use Rattle.causal_model.specs.Sending.{is_sent, is_beat, local_messages, beat_messages, local_rule}
use Rattle.causal_model.specs.State.{State}
use Rattle.causal_model.specs.declared.note.Note.{Note}
use Rattle.causal_model.specs.declared.note.Note.TheVariants.{Sent}
use Rattle.causal_model.specs.declared.outcome.Beat.{Beat}
use Rattle.causal_model.specs.declared.outcome.Beat.TheVariants as beat
use Rattle.causal_model.specs.declared.outcome.Local.{Local}
use Rattle.causal_model.specs.declared.outcome.Local.TheVariants as local
use Rattle.frame_codec.specs.Grammar.{frame_of}
use Rattle.frame_codec.specs.declared.version.Version.TheVariants.{Two}
use Rattle.replica_core.specs.Rules.{StandsFor}
use Rattle.replica_node.specs.Nodes.{state_by}
use Rattle.replica_node.specs.Rules.{noting}
use Rattle.world.specs.Brief.{brief, is_sent_briefly}
use Rattle.world.specs.Shows.{NotedNode, state_of}
use Rattle.world.specs.Steps.{SendsUpdate}
use Rattle.world.proofs.Follow.{Comes}
use Rattle.world.proofs.Replies.{Notes}

-- where nothing was sent there is no message
pub unsent_is_none : (answer : Local) → is_sent answer ≡ false → local_messages answer ≡ []
unsent_is_none (local.Sent m) e = cc
unsent_is_none local.Busy e = refl
unsent_is_none local.End e = refl
unsent_is_none local.NoMemory e = refl

pub unbeaten_is_none : (answer : Beat) → is_beat answer ≡ false → beat_messages answer ≡ []
unbeaten_is_none (beat.Sent m) e = cc
unbeaten_is_none beat.Quiet e = refl
unbeaten_is_none beat.Held e = refl
unbeaten_is_none beat.End e = refl
unbeaten_is_none beat.NoMemory e = refl

module _ {A : Type 0} (no_memory : A) (needs : A → Bool) (first : ℕ × ℕ) (notes_of : A → List Note) (rule : State → A × State) (old : List Note) where
  abbrev told : A
  told = (rule (state_by first old)).0

  -- it is enough at the notes that there were
  there : (answer : A) (new : List Note) → Comes no_memory needs (told, old ++ notes_of told) old answer (λ ns. new ≡ ns) → Notes no_memory needs (noting first notes_of rule) old answer new
  there answer new here ns is = subst (λ x. Comes no_memory needs (noting first notes_of rule x) x answer (λ y. new ≡ y)) is here

  -- the draft is refused, or there is no memory for it: nothing is noted
  pub draft_is_refused : (answer : A) → notes_of answer ≡ [] → (answer ≡ told) ⊎ ((answer ≡ no_memory) × IsTrue (needs told)) → Notes no_memory needs (noting first notes_of rule) old answer old
  draft_is_refused answer none either = there answer old (elim either [
    | inl e ↦ inl (e, sym (ap (λ ns. old ++ ns) (ap notes_of (sym e) ∙ none) ∙ append-nil old))
    | inr lost ↦ inr (lost.0, lost.1, refl)
  ])

  -- it was made, but there is no memory to send it: nothing is noted
  pub draft_is_lost : (new : List Note) → IsTrue (needs told) → new ≡ old → Notes no_memory needs (noting first notes_of rule) old no_memory new
  draft_is_lost new wanted kept = there no_memory new (inr (refl, wanted, kept))

  -- it is sent, and noted
  pub draft_is_sent : (answer : A) (new : List Note) → answer ≡ told → new ≡ old ++ notes_of answer → Notes no_memory needs (noting first notes_of rule) old answer new
  draft_is_sent answer new e noted = there answer new (inl (e, noted ∙ ap (λ x. old ++ notes_of x) e))

-- where nothing was sent there is no number to want
pub unsent_has_numbers : (answer : Local) → is_sent answer ≡ false → All (λ m. m.origin < length m.tag) (local_messages answer)
unsent_has_numbers answer unsent = subst (All (λ (m : Message). m.origin < length m.tag)) (sym (unsent_is_none answer unsent)) (All-nil (λ (m : Message). m.origin < length m.tag))

-- a message of a store has a number of its origin
pub fits_has_number : (n : ℕ) (m : Message) → IsTrue (fits n m) → m.origin < length m.tag
fits_has_number n m fit =
    let parts = and_parts (length m.tag == n) (nat_lt m.origin n) (and_parts (length m.tag == n && nat_lt m.origin n) (nat_lt 0 (number m)) fit).0 in
    omega (arith, eqb-true (length m.tag) n parts.0, ltb-true m.origin n parts.1)

-- what is told by an id is sent where the message is
pub sent_briefly : (answer : Local) → is_sent_briefly (brief answer) ≡ is_sent answer
sent_briefly (local.Sent m) = refl
sent_briefly local.Busy = refl
sent_briefly local.End = refl
sent_briefly local.NoMemory = refl

-- what sending an update leaves, by what its draft answered
module _ (update : Update) (node : NotedNode) where
  abbrev rule : State → Local × State
  rule = local_rule node.inner.w node.inner.limit update

  abbrev frames_of : List Message → List (List ℕ)
  frames_of = map (frame_of Two node.inner.n node.inner.epoch)

  abbrev Drafted : Local → Type 0
  Drafted answer = Follows StandsFor local.NoMemory is_sent (λ s. ((rule s).0, s)) node.inner answer node.inner

  drafted : (m : Message) → Drafted (local.Sent m) → local.Sent m ≡ (rule (state_of node)).0
  drafted m told = by (told (state_of node) node.stands) where
    by : ((local.Sent m ≡ (rule (state_of node)).0) × StandsFor node.inner (state_of node)) ⊎ ((local.Sent m ≡ local.NoMemory) × IsTrue (is_sent (rule (state_of node)).0) × StandsFor node.inner (state_of node)) → local.Sent m ≡ (rule (state_of node)).0
    by (inl is) = is.0
    by (inr lacks) = let e = lacks.0 in cc

  pub refused_sends : (frames : List (List ℕ)) (answer : Local) → is_sent answer ≡ false → Drafted answer → SendsUpdate update node frames answer node frames
  refused_sends frames answer unsent told =
      let none = unsent_is_none answer unsent in
      record {
        answers = draft_is_refused local.NoMemory is_sent node.first local_notes rule node.journal.notes answer (ap (map Sent) none) (elim (told (state_of node) node.stands) [ inl told ↦ inl told.0 | inr lost ↦ inr (lost.0, lost.1) ]);
        framed = sym (ap (λ ms. frames ++ frames_of ms) none ∙ append-nil frames);
        untouched = λ _ _. refl;
      }

  module _ (m : Message) (told : Drafted (local.Sent m)) (new : NotedNode) (frames left : List (List ℕ)) where
    pub lost_sends : new.journal.notes ≡ node.journal.notes → left ≡ frames → SendsUpdate update node frames local.NoMemory new left
    lost_sends kept none = record {
      answers = draft_is_lost local.NoMemory is_sent node.first local_notes rule node.journal.notes new.journal.notes (subst (λ a. IsTrue (is_sent a)) (drafted m told) refl) kept;
      framed = none ∙ sym (append-nil frames);
      untouched = λ _ other. absurd (other refl);
    }

    pub sent_sends : new.journal.notes ≡ node.journal.notes ++ Sent m ∷ [] → left ≡ frames ++ frames_of (m ∷ []) → SendsUpdate update node frames (local.Sent m) new left
    sent_sends noted more = record {
      answers = draft_is_sent local.NoMemory is_sent node.first local_notes rule node.journal.notes (local.Sent m) new.journal.notes (drafted m told) noted;
      framed = more;
      untouched = λ unsent _. absurd (true≢false unsent);
    }
