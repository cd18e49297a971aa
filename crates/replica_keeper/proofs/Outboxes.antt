-- What an outbox holds was sent, and stands within the bytes synced.
use Rattle.std.proofs.Common.{◌≡◌, ℕ, ◌<◌, ◌≤◌, ◌==◌, Bool, true, false, not, if◌then◌else◌, List, [], ◌∷◌, All, Contains, refl, arith, sym, ap, subst, ◌∙◌, length-append}
use Rattle.std.proofs.Math.Logic.{∥∥₁_elim}
use Rattle.std.proofs.Math.Nat.{ℕ_set}
use mathlib.Core.List.{is_set}
use mathlib.Core.Sum.{⊎_set}
use Rattle.std.specs.List.{filter}
use Rattle.std.proofs.lemmas.List.Elements.{All-nil, All-cons, All-head, All-tail, All-weaker, All-contains_itself}
use Rattle.op_base.specs.declared.message.Message.{Message}
use Rattle.causal_model.specs.History.{epoch_of}
use Rattle.causal_model.specs.Journal.{state_noted, state_after, replay, regrouped, IsLegal}
use Rattle.causal_model.specs.Receiving.{with_early}
use Rattle.causal_model.specs.Sending.{outbox_of}
use Rattle.causal_model.specs.Stability.{stable_vector, is_stable}
use Rattle.causal_model.specs.State.{State, start, with_own}
use Rattle.causal_model.specs.declared.note.Note.{Note}
use Rattle.causal_model.specs.declared.note.Note.TheVariants.{Sent, Kept, Took, Crook, Regroup}
use Rattle.replica_core.specs.Rules.{StandsFor}
use Rattle.replica_core.proofs.Ranges.{AreNumbers-from_test}
use Rattle.replica_node.specs.Nodes.{state_by}
use Rattle.world_model.specs.Journals.{ends_epoch, sent_in}
use Rattle.world_model.specs.Records.{Settings}
use Rattle.world_model.specs.Worlds.{own_of}
use Rattle.honest_worlds.proofs.ClosedJournals.{sent_stands, sent_notes_are_own}
use Rattle.replica_keeper.specs.Keeping.{AreSentWithin}
use Rattle.replica_keeper.specs.Open.{NotedNode, IsOpen, IsKept}
use Rattle.replica_keeper.proofs.Left.{sent_stay}

-- ---- notes of the first epoch

epoch_grows : (notes : List Note) (s : State) → epoch_of s.history ≤ epoch_of (state_after s notes).history
epoch_grows [] s = omega arith
epoch_grows (Sent m ∷ notes) s = epoch_grows notes (with_own s m)
epoch_grows (Kept m ∷ notes) s = epoch_grows notes (with_early s m)
epoch_grows (Took id ∷ notes) s = epoch_grows notes (state_noted s (Took id))
epoch_grows (Crook id ∷ notes) s = epoch_grows notes (state_noted s (Crook id))
epoch_grows (Regroup epoch n me ∷ notes) s = omega (arith, epoch_grows notes (regrouped n me s), length-append s.history.past (s.history.present ∷ []))

-- where the epoch stays the same no note ends one
none_ends : (notes : List Note) (s : State) → epoch_of (state_after s notes).history ≤ epoch_of s.history → All (λ note. ends_epoch note ≡ false) notes
none_ends [] s le = All-nil (λ note. ends_epoch note ≡ false)
none_ends (Sent m ∷ notes) s le = All-cons (λ note. ends_epoch note ≡ false) (Sent m) notes refl (none_ends notes (with_own s m) le)
none_ends (Kept m ∷ notes) s le = All-cons (λ note. ends_epoch note ≡ false) (Kept m) notes refl (none_ends notes (with_early s m) le)
none_ends (Took id ∷ notes) s le = All-cons (λ note. ends_epoch note ≡ false) (Took id) notes refl (none_ends notes (state_noted s (Took id)) le)
none_ends (Crook id ∷ notes) s le = All-cons (λ note. ends_epoch note ≡ false) (Crook id) notes refl (none_ends notes (state_noted s (Crook id)) le)
none_ends (Regroup epoch n me ∷ notes) s le = absurd (omega (arith, le, epoch_grows notes (regrouped n me s), length-append s.history.past (s.history.present ∷ [])))

-- ---- the outbox

filter-cond : {X : Type 0} (p : X → Bool) (b : Bool) (xs ys : List X) → filter p (if b then xs else ys) ≡ (if b then filter p xs else filter p ys)
filter-cond p true xs ys = refl
filter-cond p false xs ys = refl

-- what holds of each that passes a test holds of those that pass another too
filtered : {X : Type 0} (P : X → Type 0) (p q : X → Bool) (xs : List X) → All P (filter p xs) → All P (filter p (filter q xs))
filtered P p q [] all = all
filtered {X = X} P p q (x ∷ xs) all = subst (All P) (sym (filter-cond p (q x) (x ∷ filter q xs) (filter q xs))) (by (p x) (q x) (filtered P p q xs) all) where
  by : (a b : Bool) → (All P (filter p xs) → All P (filter p (filter q xs))) → All P (if a then x ∷ filter p xs else filter p xs)
      → All P (if b then (if a then x ∷ filter p (filter q xs) else filter p (filter q xs)) else filter p (filter q xs))
  by true true later all = All-cons P x (filter p (filter q xs)) (All-head P x (filter p xs) all) (later (All-tail P x (filter p xs) all))
  by false true later all = later all
  by true false later all = later (All-tail P x (filter p xs) all)
  by false false later all = later all

-- of legal notes of the first epoch the outbox has messages that they sent
outbox_was_sent : (n w limit me : ℕ) (notes : List Note) → n ≤ 16 → me < n → ∥ IsLegal n w limit me notes ∥₁ → epoch_of (replay n me notes).history ≡ 0 → (replay n me notes).history.present.me ≡ me
    → All (λ m. Contains notes (Sent m)) (outbox_of n me (replay n me notes).history.present.messages)
outbox_was_sent n w limit me notes few member legal first of_member =
    let s = replay n me notes in
    let P : Message → Type 0 = λ m. Contains notes (Sent m) in
    let one = none_ends notes (start n me) (omega (arith, first)) in
    let own : own_of s ≡ sent_in notes = ∥∥₁_elim legal (hlevel (is_set, ℕ_set, ⊎_set)) (λ is. sent_notes_are_own n w limit me notes few member is one) in
    let all : All P (own_of s) = subst (All P) (sym own) (All-weaker (Contains (sent_in notes)) P (sent_stands notes) (sent_in notes) (All-contains_itself (sent_in notes))) in
    let lies : Message → Bool = λ m. not (is_stable (stable_vector n me s.history.present.messages) m) in
    filtered P (λ m. m.origin == me) lies s.history.present.messages (subst (λ x. All P (filter (λ m. m.origin == x) s.history.present.messages)) of_member all)

-- ---- within the bytes synced

-- what is among the notes of a node that is open
pub sent_within : (node : NotedNode) (held : List ℕ) (synced : ℕ) (messages : List Message) → IsOpen node held synced → All (λ m. Contains node.journal.notes (Sent m)) messages → AreSentWithin node.inner.n synced node.journal.notes messages
sent_within node held synced messages opened all =
    let stay = sent_stay node.inner.n synced node.journal.notes opened.keeps.cut opened.keeps.sent in
    All-weaker (λ m. Contains node.journal.notes (Sent m)) _ stay.there messages all

-- its outbox
pub outbox_within : (of : Settings) (node : NotedNode) (held : List ℕ) (synced : ℕ) → IsKept of node held synced → AreSentWithin of.n synced node.journal.notes node.inner.outbox.messages
outbox_within of node held synced k =
    let r = node.inner in
    let notes = node.journal.notes in
    let numbers = AreNumbers-from_test r.me r.n r.w r.limit r.numbers in
    let stands : StandsFor r (replay r.n r.me notes) = subst (λ first. StandsFor r (state_by first notes)) k.opened.first node.stands in
    let legal : ∥ IsLegal r.n r.w r.limit r.me notes ∥₁ = subst (λ first. ∥ IsLegal first.1 r.w r.limit first.0 notes ∥₁) k.opened.first node.legal in
    let was = outbox_was_sent r.n r.w r.limit r.me notes numbers.few numbers.member legal (stands.in_epoch ∙ k.opened.epoch) stands.of_member in
    let all = subst (All (λ m. Contains notes (Sent m))) (sym (ap (λ o. o.messages) stands.outbox)) was in
    subst (λ n. AreSentWithin n synced notes r.outbox.messages) k.n (sent_within node held synced r.outbox.messages k.opened all)
