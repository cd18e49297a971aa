-- The messages of an outbox are of the store.
use Rattle.std.proofs.Common.{◌≡◌, ℕ, ◌&&◌, ◌==◌, not, nat_lt, Bool, All, IsTrue, List, length, take, Result, Ok, Err, refl, sym, ap, subst, ◌∙◌, arith}
use Rattle.std.specs.Prelude.{IfOk}
use Rattle.std.specs.List.{filter}
use Rattle.std.proofs.lemmas.Bool.{and_from, eq-eqb, lt-ltb}
use Rattle.std.proofs.lemmas.List.Elements.{All-nil, All-push, All-filter, All-take}
use Rattle.std.proofs.lemmas.List.Sums.{AllPass-from_list_all}
use Rattle.op_base.specs.Message.{number, fits}
use Rattle.op_base.specs.declared.memory.NoMemory.{NoMemory}
use Rattle.op_base.specs.declared.message.Message.{Message}
use Rattle.causal_model.specs.Chapter.{is_chapter}
use Rattle.causal_model.specs.Counts.{is_carried}
use Rattle.causal_model.specs.State.{State}
use Rattle.causal_model.specs.Stability.{is_stable, stable_vector}
use Rattle.causal_model.specs.States.{IsState}
use Rattle.causal_model.specs.declared.note.Note.{Note}
use Rattle.causal_model.proofs.Delivery.Chapters.{chapter_induction}
use Rattle.causal_model.proofs.Events.Histories.{IsHistory-from_test, IsLimited-from_test}
use Rattle.replica_node.specs.Nodes.{state_by}
use Rattle.replica_lock.specs.Rules.{outbox_in, state_in, IsOutbox}
use Rattle.replica_lock.specs.Turns.{NotedNode, NotedTurn, Fits}
use Rattle.replica_lock.specs.declared.pass.Settings.{Settings}

-- each message of a chapter is one of the store
chapter_fits : (n w me : ℕ) (ms : List Message) → IsTrue (is_chapter n w me ms) → All (λ m. IsTrue (fits n m)) ms
chapter_fits n w me = chapter_induction n w me (λ g. All (λ m. IsTrue (fits n m)) g) (All-nil (λ m. IsTrue (fits n m))) (λ g m _ next all.
    All-push (λ y. IsTrue (fits n y)) g m all (and_from (length m.tag == n && nat_lt m.origin n) (nat_lt 0 (number m))
    (and_from (length m.tag == n) (nat_lt m.origin n) (eq-eqb (length m.tag) n next.entries) (lt-ltb m.origin n next.member)) (lt-ltb 0 (number m) (omega (arith, next.counted)))))

-- what holds of all messages of a state holds of its outbox
all_in_outbox : (P : Message → Type 0) (s : State) → All P s.history.present.messages → All P (outbox_in s)
all_in_outbox P s all =
    let h = s.history.present in
    let lies : Message → Bool = λ m. not (is_stable (stable_vector h.n h.me h.messages) m) in
    All-filter (λ m. m.origin == h.me) P (filter lies h.messages) (All-filter lies P h.messages all)

outbox_fits : (w limit : ℕ) (s : State) → IsState w limit s → All (λ m. IsTrue (fits s.history.present.n m)) (outbox_in s)
outbox_fits w limit s is =
    let h = s.history.present in
    all_in_outbox (λ m. IsTrue (fits h.n m)) s (chapter_fits h.n w h.me h.messages (IsHistory-from_test w s.history is.is_history).chapter)

outbox_carried : (w limit : ℕ) (s : State) → IsState w limit s → All (λ m. IsTrue (is_carried limit m)) (outbox_in s)
outbox_carried w limit s is =
    all_in_outbox (λ m. IsTrue (is_carried limit m)) s (AllPass-from_list_all (is_carried limit) s.history.present.messages (IsLimited-from_test limit s.history is.is_limited).present)

module _ (key other : Settings) (seen : List NotedTurn) (node : NotedNode) (most : ℕ) (same : other ≡ key) (fits_turns : Fits key seen node) where
  abbrev here : State
  here = state_by node.first node.journal.notes

  is_there : here ≡ state_in other seen
  is_there =
      subst (λ (x : (ℕ × ℕ) × List Note). here ≡ state_by x.0 x.1) (λ i. (fits_turns.is_node.first i, fits_turns.notes i)) refl
      ∙ ap (λ (k : Settings). state_in k seen) (sym same)

  outbox_is : node.inner.outbox.messages ≡ outbox_in here
  outbox_is =
      let ms = here.history.present.messages in
      ap (λ o. o.messages) node.stands.outbox
      ∙ ap (λ n. filter (λ m. m.origin == node.inner.me) (filter (λ m. not (is_stable (stable_vector n node.inner.me ms) m)) ms)) (sym node.stands.of_store)
      ∙ ap (λ me. filter (λ m. m.origin == me) (filter (λ m. not (is_stable (stable_vector here.history.present.n me ms) m)) ms)) (sym node.stands.of_member)

  -- the oldest messages of a node's outbox
  pub told_outbox : (all : List Message) (result : Result (List Message) NoMemory) → all ≡ node.inner.outbox.messages → IfOk result (λ list. list ≡ take most all) → IsOutbox other (state_in other seen) most result
  told_outbox all (Ok messages) all_is is =
      let whole = is ∙ ap (take most) (all_is ∙ outbox_is) in
      let n_is : here.history.present.n ≡ other.n = node.stands.of_store ∙ fits_turns.is_node.n ∙ ap (λ (k : Settings). k.n) (sym same) in
      let limit_is : node.inner.limit ≡ other.limit = fits_turns.is_node.limit ∙ ap (λ (k : Settings). k.limit) (sym same) in
      record {
        are = whole ∙ ap (λ s. take most (outbox_in s)) is_there;
        fit = subst (λ (x : ℕ × List Message). All (λ m. IsTrue (fits x.0 m)) x.1) (λ i. (n_is i, sym whole i)) (All-take (λ m. IsTrue (fits here.history.present.n m)) most (outbox_in here) (outbox_fits node.inner.w node.inner.limit here node.stands.is_state));
        carried = subst (λ (x : ℕ × List Message). All (λ m. IsTrue (is_carried x.0 m)) x.1) (λ i. (limit_is i, sym whole i)) (All-take (λ m. IsTrue (is_carried node.inner.limit m)) most (outbox_in here) (outbox_carried node.inner.w node.inner.limit here node.stands.is_state));
      }
  told_outbox all (Err none) all_is is = tt
