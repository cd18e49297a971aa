-- Calls in turns.
use Rattle.std.proofs.Common.{◌≡◌, ℕ, List, [], ◌++◌, length, false, Bool, inl, inr, Result, Ok, Err, refl, sym, ap, subst, ◌∙◌}
use Rattle.std.specs.Prelude.{IfOk}
use Rattle.std.proofs.lemmas.List.{append-nil}
use Rattle.op_base.specs.declared.memory.NoMemory.{NoMemory}
use Rattle.op_base.specs.declared.name.ObjectId.{ObjectId}
use Rattle.op_base.specs.declared.outcome.Answer.{Answer}
use Rattle.causal_model.specs.History.{events}
use Rattle.causal_model.specs.Journal.{IsLegal}
use Rattle.causal_model.specs.Query.{answer}
use Rattle.causal_model.specs.State.{State}
use Rattle.causal_model.specs.declared.note.Note.{Note}
use Rattle.replica_core.specs.Rules.{SameSettings}
use Rattle.replica_node.specs.Nodes.{state_by}
use Rattle.replica_node.specs.Rules.{noting}
use Rattle.turn_lock.specs.Turns.{PassState, StartsWith, turns_of, entered, after_turn}
use Rattle.replica_lock.specs.Held.{Held}
use Rattle.replica_lock.specs.Rules.{AreLegal, FollowsNotes, IsCall, IsAnswer, state_in}
use Rattle.replica_lock.specs.Turns.{NotedNode, NotedTurn, Fits, notes_in, turn_with}
use Rattle.replica_lock.specs.declared.pass.Settings.{Settings}
use Rattle.replica_lock.proofs.Ends.{notes_with}

abbrev pub NotedPass : Type 0
NotedPass = PassState (List Note) Settings

abbrev pub held_of : NotedPass → Held
held_of p = record { lock = p.lock; number = p.number; seen = p.seen; own = p.own }

-- ---- what a call noted stands behind the notes before it

abbrev pub Grows : List Note → List Note → Type 0
Grows before after = (what : List Note) × (after ≡ before ++ what)

grows_not : (before after : List Note) → after ≡ before → Grows before after
grows_not before after same = ([], same ∙ sym (append-nil before))

-- a call that follows a rule notes what the rule's answer says, or nothing
pub follows_grow : {A : Type 0} (no_memory : A) (takes_memory : A → Bool) (first : ℕ × ℕ) (notes_of : A → List Note) (rule : State → A × State) (before after : List Note) (answer : A)
    → FollowsNotes no_memory takes_memory (noting first notes_of rule) before after answer → Grows before after
follows_grow no_memory takes_memory first notes_of rule before after answer follows = elim (follows before refl) [
  | inl made ↦ (notes_of (rule (state_by first before)).0, made.1)
  | inr none ↦ grows_not before after none.2
]

-- ---- a call in a turn

-- what the rules say at a node is said at the turns that it fits
pub told : (N : ℕ → ℕ → (ℕ × ℕ) → List Note → List Note → Type 0) (key : Settings) (seen : List NotedTurn) (node : NotedNode) (after what : List Note)
    → Fits key seen node → after ≡ notes_in seen ++ what → N node.inner.w node.inner.limit node.first node.journal.notes after
    → N key.w key.limit (key.me, key.n) (notes_in seen) (notes_in seen ++ what)
told N key seen node after what fits grows says =
    subst (λ (x : ℕ × ℕ × (ℕ × ℕ) × List Note × List Note). N x.0 x.1 x.2 x.3 x.4)
    (λ i. (fits.is_node.w i, fits.is_node.limit i, fits.is_node.first i, fits.notes i, grows i)) says

legal_in : (key : Settings) (seen : List NotedTurn) (node : NotedNode) → node.inner.w ≡ key.w → node.inner.limit ≡ key.limit → node.first ≡ (key.me, key.n) → node.journal.notes ≡ notes_in seen → AreLegal key seen
legal_in key seen node w limit first notes =
    subst (λ (x : ℕ × ℕ × (ℕ × ℕ) × List Note). ∥ IsLegal x.2.1 x.0 x.1 x.2.0 x.3 ∥₁) (λ i. (w i, limit i, first i, notes i)) node.legal

module _ (key : Settings) (old : Held) (start in_turn ended : NotedPass) (node new : NotedNode) (place : ℕ) (what : List Note)
    (is_held : held_of start ≡ old) (of_lock : start.lock.key ≡ key) (enters : in_turn ≡ entered in_turn.seen start) (begins : StartsWith in_turn.seen start.seen)
    (own : turns_of in_turn.number in_turn.seen ≡ in_turn.own) (fits : Fits key in_turn.seen node)
    (settings : SameSettings node.inner new.inner) (first : new.first ≡ node.first) (grows : new.journal.notes ≡ notes_in in_turn.seen ++ what)
    (ends : ended ≡ after_turn (turn_with in_turn.number what) in_turn) (own_after : turns_of ended.number ended.seen ≡ ended.own) (counted : place ≡ length new.journal.notes) where
  noted : notes_in ended.seen ≡ notes_in in_turn.seen ++ what
  noted = ap (λ (p : NotedPass). notes_in p.seen) ends ∙ notes_with in_turn.seen in_turn.number what

  pub call_made : IsCall old (held_of ended) place in_turn.seen what
  call_made = subst (λ o. IsCall o (held_of ended) place in_turn.seen what) is_held (record {
    begins = begins;
    own_before = ap (λ (p : NotedPass). turns_of p.number in_turn.seen) (sym enters) ∙ own ∙ ap (λ (p : NotedPass). p.own) enters;
    becomes = ap held_of ends ∙ ap (λ (p : NotedPass). let h : Held = record { lock = p.lock; number = p.number; seen = in_turn.seen ++ turn_with p.number what; own = p.own ++ turn_with p.number what } in h) enters;
    own = own_after;
    place_is = counted ∙ ap length grows;
    notes_are = noted;
    legal_before = subst (λ k. AreLegal k in_turn.seen) (sym of_lock) (legal_in key in_turn.seen node fits.is_node.w fits.is_node.limit fits.is_node.first fits.notes);
    legal = subst (λ k. AreLegal k ended.seen) (sym of_lock)
        (legal_in key ended.seen new (settings.w ∙ fits.is_node.w) (settings.limit ∙ fits.is_node.limit) (first ∙ fits.is_node.first) (grows ∙ sym noted));
  })

-- what is said at the key of a pass's lock is said at its own
pub told_to : (N : ℕ → ℕ → (ℕ × ℕ) → List Note → List Note → Type 0) (key other : Settings) (before after : List Note) → other ≡ key
    → N key.w key.limit (key.me, key.n) before after → N other.w other.limit (other.me, other.n) before after
told_to N key other before after same says = subst (λ (k : Settings). N k.w k.limit (k.me, k.n) before after) (sym same) says

-- ---- asking

pub same_settings : (node : NotedNode) → SameSettings node.inner node.inner
same_settings node = record { me = refl; n = refl; w = refl; limit = refl; epoch = refl }

pub answered : (key other : Settings) (seen : List NotedTurn) (node : NotedNode) (object : ObjectId) (result : Result Answer NoMemory) → other ≡ key → Fits key seen node
    → IfOk result (λ a. a ≡ answer object (events (state_by node.first node.journal.notes).history)) → IsAnswer (state_in other seen) object result
answered key other seen node object (Ok a) same fits is =
    is ∙ subst (λ (x : (ℕ × ℕ) × List Note × Settings). answer object (events (state_by node.first node.journal.notes).history) ≡ answer object (events (state_by x.0 x.1).history)) (λ i. (fits.is_node.first i, fits.notes i, key)) refl
    ∙ ap (λ (k : Settings). answer object (events (state_in k seen).history)) (sym same)
answered key other seen node object (Err none) same fits is = tt
