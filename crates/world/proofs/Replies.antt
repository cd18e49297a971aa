-- What calls answer and leave at a plain world that is shown, by what a node answers and notes.
use Rattle.std.proofs.Common.{◌≡◌, ℕ, Bool, IsTrue, List, [], ◌++◌, map, fold, slice_index_or, slice_set, inl, inr, refl, sym, ap, subst, ◌∙◌, append-nil}
use Rattle.std.proofs.lemmas.List.Sums.{fold-append}
use Rattle.op_base.specs.Message.{fits}
use Rattle.op_base.specs.Valid.{is_valid_update}
use Rattle.op_base.specs.declared.message.Message.{Message}
use Rattle.op_base.specs.declared.operation.Update.{Update}
use Rattle.causal_model.specs.Counts.{is_carried}
use Rattle.causal_model.specs.Follows.{Follows}
use Rattle.causal_model.specs.Journal.{state_noted, state_after, local_notes, beat_notes, receive_notes}
use Rattle.causal_model.specs.Receiving.{receive_rule}
use Rattle.causal_model.specs.Sending.{is_sent, is_beat, local_messages, beat_messages, local_rule, beat_rule}
use Rattle.causal_model.specs.State.{State, start, with_own}
use Rattle.causal_model.specs.declared.note.Note.{Note}
use Rattle.causal_model.specs.declared.outcome.Beat.{Beat}
use Rattle.causal_model.specs.declared.outcome.Beat.TheVariants as beat
use Rattle.causal_model.specs.declared.outcome.Local.{Local}
use Rattle.causal_model.specs.declared.outcome.Local.TheVariants as local
use Rattle.causal_model.specs.declared.outcome.Receive.{Receive}
use Rattle.causal_model.proofs.States.Journals.{sending_replays, beating_replays, receiving_replays}
use Rattle.frame_codec.specs.Grammar.{frame_of}
use Rattle.frame_codec.specs.declared.version.Version.TheVariants.{Two}
use Rattle.replica_node.specs.Nodes.{state_by}
use Rattle.replica_node.specs.Rules.{noting}
use Rattle.world_model.specs.World.{PlainWorld, size_of, replica_of, with_all_sent, local_at, beat_at, offer_at}
use Rattle.world_model.specs.Worlds.{KeepsWorld}
use Rattle.world_model.proofs.Commands.{sending_keeps_world, beating_keeps_world, offering_keeps_world}
use Rattle.world_model.proofs.Worlds.{world_keeps_itself}
use Rattle.world.specs.Shows.{NotedNode, state_of, Shows}
use Rattle.world.specs.Steps.{SameNode}
use Rattle.world.proofs.Changes.{rows_with, rows_within, changed_shows, same_shows, sent_shows}
use Rattle.world.proofs.Follow.{Comes}
use Rattle.world.proofs.Nodes.{StandsAt, within, n_shown, limit_shown, alike}

-- a call of a node follows a rule of its notes
abbrev pub Notes : {A : Type 0} → A → (A → Bool) → (List Note → A × List Note) → List Note → A → List Note → Type 0
Notes no_memory needs rule old answer new = Follows (λ (there ns : List Note). there ≡ ns) no_memory needs rule old answer new

module _ (nodes : List NotedNode) (rows : List (List (List ℕ))) (plain : PlainWorld) (shows : Shows nodes rows plain) (r : ℕ) (node : NotedNode) (stands : StandsAt nodes r node) (left : NotedNode) (same : SameNode node left) where
  -- the state of the node that is left, by what it noted more
  state_left : (more : List Note) → left.journal.notes ≡ node.journal.notes ++ more → state_of left ≡ state_after (state_of node) more
  state_left more is = ap (λ first. state_by first left.journal.notes) same.first ∙ ap (state_by node.first) is ∙ fold-append state_noted (start node.first.1 node.first.0) node.journal.notes more

  unnoted : left.journal.notes ≡ node.journal.notes → state_of left ≡ state_of node
  unnoted is = ap (λ first. state_by first left.journal.notes) same.first ∙ ap (state_by node.first) is

  -- What a node follows, the world follows: where the rule answers alike at both, where what it notes more replays to a state
  -- with which the world then is shown, and where it is shown still if nothing was noted.
  replies : {A : Type 0} (no_memory : A) (needs : A → Bool) (rule : List Note → A × List Note) (made : A × PlainWorld) (more : List Note) (after : State) (answer : A) (Leaves : PlainWorld → Type 0)
      → (rule node.journal.notes).0 ≡ made.0 → (rule node.journal.notes).1 ≡ node.journal.notes ++ more → state_after (state_of node) more ≡ after
      → (answer ≡ made.0 → state_of left ≡ after → Leaves made.1) → (answer ≡ no_memory → state_of left ≡ state_of node → Leaves plain)
      → Notes no_memory needs rule node.journal.notes answer left.journal.notes → Comes no_memory needs made plain answer Leaves
  replies no_memory needs rule made more after answer Leaves alike_told noted replays moves stays follows = elim (follows node.journal.notes refl) [
    | inl told ↦ let is = told.0 ∙ alike_told in inl (is, moves is (state_left more (told.1 ∙ noted) ∙ replays))
    | inr none ↦ inr (none.0, subst (λ x. IsTrue (needs x)) alike_told none.1, stays none.0 (unnoted none.2))
  ]

  -- nothing is noted
  pub replies_nothing : {A : Type 0} (no_memory : A) (needs : A → Bool) (rule : List Note → A × List Note) (told answer : A) → rule node.journal.notes ≡ (told, node.journal.notes)
      → Notes no_memory needs rule node.journal.notes answer left.journal.notes → Comes no_memory needs (told, plain) plain answer (Shows (slice_set nodes r left) rows)
  replies_nothing no_memory needs rule told answer is =
      let stays : state_of left ≡ state_of node → Shows (slice_set nodes r left) rows plain = same_shows nodes rows plain shows r node stands left same in
      replies no_memory needs rule (told, plain) [] (state_of node) answer (Shows (slice_set nodes r left) rows) (ap (λ x. x.0) is) (ap (λ x. x.1) is ∙ sym (append-nil node.journal.notes)) refl (λ _. stays) (λ _. stays)

  -- a message of the store that can be carried there is offered, and its answer told in some way
  pub replies_offer : {A : Type 0} (no_memory : A) (needs : A → Bool) (told : Receive → A) (rule : List Note → A × List Note) (m : Message) (answer : A) → IsTrue (fits (size_of plain) m) → IsTrue (is_carried plain.limit m)
      → rule node.journal.notes ≡ (let made = noting node.first (receive_notes m) (receive_rule node.inner.w m) node.journal.notes in (told made.0, made.1))
      → Notes no_memory needs rule node.journal.notes answer left.journal.notes
      → Comes no_memory needs (told (offer_at r m plain).0, (offer_at r m plain).1) plain answer (Shows (slice_set nodes r left) rows)
  replies_offer no_memory needs told rule m answer fit carried is =
      let got = receive_rule node.inner.w m (state_of node) in
      let same_got : got ≡ receive_rule plain.w m (replica_of plain r) = alike nodes rows plain shows r node stands (λ w limit s. receive_rule w m s) in
      let fits_state = subst (λ n. IsTrue (fits n m)) (sym (node.stands.of_store ∙ n_shown nodes rows plain shows r node stands)) fit in
      let carried_here = subst (λ limit. IsTrue (is_carried limit m)) (sym (limit_shown nodes rows plain shows r node stands)) carried in
      let keeps = (offering_keeps_world plain r m shows.is_world (within nodes rows plain shows r node stands) fit carried) in
      replies no_memory needs rule (told (offer_at r m plain).0, (offer_at r m plain).1) (receive_notes m got.0) (receive_rule plain.w m (replica_of plain r)).1 answer (Shows (slice_set nodes r left) rows)
      (ap (λ x. x.0) is ∙ ap (λ x. told x.0) same_got) (ap (λ x. x.1) is) (receiving_replays node.inner.w node.inner.limit (state_of node) m node.stands.is_state fits_state carried_here ∙ ap (λ x. x.1) same_got)
      (λ _ after. changed_shows nodes rows plain shows r node stands left same (receive_rule plain.w m (replica_of plain r)).1 after keeps)
      (λ _. same_shows nodes rows plain shows r node stands left same)

  -- a message is sent by a rule, where it gives one
  pub replies_sent : {A : Type 0} (no_memory : A) (needs : A → Bool) (notes_of : A → List Note) (messages_of : A → List Message) (rule : State → A × State) (told answer : A)
      → (rule (state_of node)).0 ≡ told → state_after (state_of node) (notes_of (rule (state_of node)).0) ≡ fold with_own (state_of node) (messages_of (rule (state_of node)).0)
      → messages_of no_memory ≡ [] → KeepsWorld plain (with_all_sent r plain (messages_of told))
      → Notes no_memory needs (noting node.first notes_of rule) node.journal.notes answer left.journal.notes
      → Comes no_memory needs (told, with_all_sent r plain (messages_of told)) plain answer
      (Shows (slice_set nodes r left) (slice_set rows r (slice_index_or rows r [] ++ map (frame_of Two node.inner.n node.inner.epoch) (messages_of answer))))
  replies_sent no_memory needs notes_of messages_of rule told answer is replays none keeps =
      let s = state_of node in
      let rows_of : List Message → List (List (List ℕ)) = λ ms. slice_set rows r (slice_index_or rows r [] ++ map (frame_of Two node.inner.n node.inner.epoch) ms) in
      let shown = sent_shows nodes rows plain shows r node stands left same in
      replies no_memory needs (noting node.first notes_of rule) (told, with_all_sent r plain (messages_of told)) (notes_of (rule s).0) (fold with_own s (messages_of told)) answer (Shows (slice_set nodes r left) (rows_of (messages_of answer)))
      is refl (replays ∙ ap (λ x. fold with_own s (messages_of x)) is)
      (λ e after. subst (λ ms. Shows (slice_set nodes r left) (rows_of ms) (with_all_sent r plain (messages_of told))) (sym (ap messages_of e)) (shown (messages_of told) after keeps))
      (λ e stays. subst (λ ms. Shows (slice_set nodes r left) (rows_of ms) plain) (sym (ap messages_of e ∙ none)) (shown [] stays (world_keeps_itself plain shows.is_world)))

-- a send, where the row of frames is one of a table
module _ {X : Type 0} (items : X → List (List ℕ)) (nodes : List NotedNode) (sent : List X) (plain : PlainWorld) (shows : Shows nodes (map items sent) plain)
    (r : ℕ) (node left : NotedNode) (row new : X) (stands : StandsAt nodes r node) (same : SameNode node left) (at : row ≡ slice_index_or sent r row) where
  -- its rows, by the frames that stand behind the others
  rows_shown : {A : Type 0} (no_memory : A) (needs : A → Bool) (made : A × PlainWorld) (answer : A) (frames : List (List ℕ)) → items new ≡ items row ++ frames
      → Comes no_memory needs made plain answer (Shows (slice_set nodes r left) (slice_set (map items sent) r (slice_index_or (map items sent) r [] ++ frames)))
      → Comes no_memory needs made plain answer (Shows (slice_set nodes r left) (map items (slice_set sent r new)))
  rows_shown no_memory needs made answer frames more =
      subst (λ rows. Comes no_memory needs made plain answer (Shows (slice_set nodes r left) rows)) (sym (rows_with items sent r row new frames (rows_within items nodes sent plain shows r stands.low) at more))

  pub replies_local : (update : Update) (answer : Local) → IsTrue (is_valid_update update) → items new ≡ items row ++ map (frame_of Two node.inner.n node.inner.epoch) (local_messages answer)
      → Notes local.NoMemory is_sent (noting node.first local_notes (local_rule node.inner.w node.inner.limit update)) node.journal.notes answer left.journal.notes
      → Comes local.NoMemory is_sent (local_at r update plain) plain answer (Shows (slice_set nodes r left) (map items (slice_set sent r new)))
  replies_local update answer valid more follows =
      rows_shown local.NoMemory is_sent (local_at r update plain) answer (map (frame_of Two node.inner.n node.inner.epoch) (local_messages answer)) more
      (replies_sent nodes (map items sent) plain shows r node stands left same local.NoMemory is_sent local_notes local_messages (local_rule node.inner.w node.inner.limit update) (local_at r update plain).0 answer
      (alike nodes (map items sent) plain shows r node stands (λ w limit s. (local_rule w limit update s).0)) (sending_replays node.inner.w node.inner.limit (state_of node) update) refl
      (sending_keeps_world plain r update shows.is_world (within nodes (map items sent) plain shows r node stands) valid) follows)

  pub replies_beat : (answer : Beat) → items new ≡ items row ++ map (frame_of Two node.inner.n node.inner.epoch) (beat_messages answer)
      → Notes beat.NoMemory is_beat (noting node.first beat_notes (beat_rule node.inner.w node.inner.limit)) node.journal.notes answer left.journal.notes
      → Comes beat.NoMemory is_beat (beat_at r plain) plain answer (Shows (slice_set nodes r left) (map items (slice_set sent r new)))
  replies_beat answer more follows =
      rows_shown beat.NoMemory is_beat (beat_at r plain) answer (map (frame_of Two node.inner.n node.inner.epoch) (beat_messages answer)) more
      (replies_sent nodes (map items sent) plain shows r node stands left same beat.NoMemory is_beat beat_notes beat_messages (beat_rule node.inner.w node.inner.limit) (beat_at r plain).0 answer
      (alike nodes (map items sent) plain shows r node stands (λ w limit s. (beat_rule w limit s).0)) (beating_replays node.inner.w node.inner.limit (state_of node)) refl
      (beating_keeps_world plain r shows.is_world (within nodes (map items sent) plain shows r node stands)) follows)
