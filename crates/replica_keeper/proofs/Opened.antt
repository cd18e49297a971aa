-- An open replica with a group more.
use Rattle.std.proofs.Common.{◌≡◌, ℕ, ◌<◌, ◌≤◌, ◌^◌, false, ◌&&◌, nat_le, nat_lt, IsTrue, List, [], ◌∷◌, ◌++◌, map, length, None, refl, sym, ap, subst, ◌∙◌, arith, length-append}
use Rattle.std.proofs.lemmas.Bool.{and_parts, leb-true}
use Rattle.op_base.specs.Message.{fits}
use Rattle.op_base.specs.declared.message.Message.{Message}
use Rattle.causal_model.specs.Counts.{is_carried}
use Rattle.causal_model.specs.Journal.{replay, step_note}
use Rattle.causal_model.specs.Receiving.{steps, with_early, refusal_of}
use Rattle.causal_model.specs.State.{State}
use Rattle.causal_model.specs.declared.note.Note.{Note}
use Rattle.causal_model.specs.declared.note.Note.TheVariants.{Sent, Kept}
use Rattle.replica_core.specs.Numbers.{is_from_to, are_numbers}
use Rattle.replica_core.specs.Rules.{StandsFor, SameSettings, IsDraft}
use Rattle.replica_core.proofs.Own.{draft_fits, draft_is_carried}
use Rattle.replica_node.specs.Nodes.{state_by}
use Rattle.store_io.specs.Keeping.{Leaves}
use Rattle.world_model.specs.Records.{record_of, records_of}
use Rattle.world_model.specs.Stops.{is_send}
use Rattle.replica_keeper.specs.Keeping.{groups_of, IsFrontOf, Keeps}
use Rattle.replica_keeper.specs.Open.{NotedNode, settings_by, IsOpen}
use Rattle.replica_keeper.proofs.Kept.{Opens, records_more, sent_len-le, sent_len-more, IsNoted, left_more, keeps_more}
use Rattle.replica_keeper.proofs.Told.{sent_told, kept_told}

-- ---- numbers

pub record AreSmall (n limit : ℕ) : Type 0 where
  pub few : n ≤ 16
  pub small : limit < 2 ^ 32

pub are_small : (me n w limit : ℕ) → IsTrue (are_numbers me n w limit) → AreSmall n limit
are_small me n w limit h =
    let most = and_parts (is_from_to 1 16 n && is_from_to 1 64 w && is_from_to 1 1000000 limit) (nat_lt me n) h in
    let two = and_parts (is_from_to 1 16 n && is_from_to 1 64 w) (is_from_to 1 1000000 limit) most.0 in
    let one = and_parts (is_from_to 1 16 n) (is_from_to 1 64 w) two.0 in
    let up = leb-true n 16 (and_parts (nat_le 1 n) (nat_le n 16) one.0).1 in
    let most_limit = leb-true limit 1000000 (and_parts (nat_le 1 limit) (nat_le limit 1000000) two.1).1 in
    record { few = up; small = omega (arith, most_limit) }

pub same_settings : (old new : NotedNode) → SameSettings old.inner new.inner → settings_by new ≡ settings_by old
same_settings old new s = rw (s.me, s.n, s.w, s.limit) refl

-- ---- what calls note

module _ (node : NotedNode) (first : node.first ≡ (node.inner.me, node.inner.n)) where
  there : StandsFor node.inner (replay node.inner.n node.inner.me node.journal.notes)
  there = subst (λ f. StandsFor node.inner (state_by f node.journal.notes)) first node.stands

  small : AreSmall node.inner.n node.inner.limit
  small = are_small node.inner.me node.inner.n node.inner.w node.inner.limit node.inner.numbers

  pub draft_noted : (m : Message) → ((s : State) → StandsFor node.inner s → IsDraft node.inner m s) → IsNoted (settings_by node) node.journal.notes (Sent m ∷ [])
  draft_noted m draft =
      sent_told node.inner.n node.inner.w node.inner.limit node.inner.me (replay node.inner.n node.inner.me node.journal.notes) m small.few small.small (draft_fits node.inner m draft) (draft_is_carried node.inner m draft)
      there.of_store there.of_member (draft (replay node.inner.n node.inner.me node.journal.notes) there).given

  pub accepted_noted : (m : Message) → IsTrue (fits node.inner.n m) → IsTrue (is_carried node.inner.limit m) → ((s : State) → StandsFor node.inner s → refusal_of node.inner.w s m ≡ None)
      → IsNoted (settings_by node) node.journal.notes (Kept m ∷ map step_note (steps node.inner.w (with_early (state_by node.first node.journal.notes) m)).0)
  accepted_noted m fit carried unrefused =
      let s = replay node.inner.n node.inner.me node.journal.notes in
      subst (λ f. IsNoted (settings_by node) node.journal.notes (Kept m ∷ map step_note (steps node.inner.w (with_early (state_by f node.journal.notes) m)).0)) (sym first)
      (kept_told node.inner.n node.inner.w node.inner.limit node.inner.me s m small.few small.small fit carried (unrefused s there))

-- ---- what is open then

pub opened_left : (node : NotedNode) (held : List ℕ) (synced : ℕ) (group : List Note) → IsOpen node held synced → IsNoted (settings_by node) node.journal.notes group
    → (left : List ℕ) → Leaves (held ++ record_of node.inner.n group) synced left → IsFrontOf (settings_by node) (groups_of node.journal.notes ++ group ∷ []) synced left
opened_left node held synced group opened told left l = left_more (settings_by node) node.journal.notes group held synced left opened.keeps told l

same_open : (old new : NotedNode) (notes : List Note) (held held' : List ℕ) (synced : ℕ) → SameSettings old.inner new.inner → new.first ≡ old.first → old.first ≡ (old.inner.me, old.inner.n) → old.inner.epoch ≡ 0 → new.journal.notes ≡ notes → held' ≡ held
    → Keeps (settings_by old) notes held synced → IsOpen new held' synced
same_open old new notes held held' synced s f first e n h k = record {
  first = f ∙ first ∙ rw (s.me, s.n) refl;
  epoch = s.epoch ∙ e;
  keeps = rw (same_settings old new s, n, h) k;
}

-- a group, with all synced
pub opened_synced : (old new : NotedNode) (group : List Note) (held held' : List ℕ) (synced synced' : ℕ) → IsOpen old held synced → IsNoted (settings_by old) old.journal.notes group → Opens group
    → SameSettings old.inner new.inner → new.first ≡ old.first → new.journal.notes ≡ old.journal.notes ++ group → held' ≡ held ++ record_of old.inner.n group → synced' ≡ length held' → IsOpen new held' synced'
opened_synced old new group held held' synced synced' opened told opens s f n h y =
    let n' = old.inner.n in
    let all : records_of n' (groups_of old.journal.notes ++ group ∷ []) ≡ held ++ record_of n' group =
    records_more n' (groups_of old.journal.notes) group ∙ ap (λ h. h ++ record_of n' group) (sym opened.keeps.records) in
    let size : synced' ≡ length (held ++ record_of n' group) = y ∙ ap length h in
    let k = keeps_more (settings_by old) old.journal.notes group held synced synced' opened.keeps told opens
    (let le = sent_len-le n' (groups_of old.journal.notes ++ group ∷ []) in let e = ap length all in omega (arith, le, e, size)) (omega (arith, size)) in
    same_open old new (old.journal.notes ++ group) (held ++ record_of n' group) held' synced' s f opened.first opened.epoch n h k

-- a group that sends nothing, with no more synced
pub opened_kept : (old new : NotedNode) (group : List Note) (held held' : List ℕ) (synced synced' : ℕ) → IsOpen old held synced → IsNoted (settings_by old) old.journal.notes group → Opens group → is_send group ≡ false
    → SameSettings old.inner new.inner → new.first ≡ old.first → new.journal.notes ≡ old.journal.notes ++ group → held' ≡ held ++ record_of old.inner.n group → synced' ≡ synced → IsOpen new held' synced'
opened_kept old new group held held' synced synced' opened told opens other s f n h y =
    let n' = old.inner.n in
    let sent = sent_len-more n' (groups_of old.journal.notes) group other in
    let k = keeps_more (settings_by old) old.journal.notes group held synced synced opened.keeps told opens
    (omega (arith, sent, opened.keeps.sent)) (omega (arith, opened.keeps.within, length-append held (record_of n' group))) in
    subst (λ y. IsOpen new held' y) (sym y) (same_open old new (old.journal.notes ++ group) (held ++ record_of n' group) held' synced s f opened.first opened.epoch n h k)
