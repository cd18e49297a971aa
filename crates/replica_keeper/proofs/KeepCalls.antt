-- What calls at a durable replica answer and leave at the plain keep world that is shown.
use Rattle.std.proofs.Common.{◌≡◌, ◌≢◌, ◌⊎◌, inl, inr, ℕ, ◌-◌, ◌<◌, ◌≤◌, Bool, false, IsTrue, List, ◌++◌, length, map, slice_index_or, slice_set, Option, Some, None, refl, sym, ap, subst, ◌∙◌, arith}
use Rattle.std.proofs.lemmas.Bool.{false≢true}
use Rattle.op_base.specs.Message.{fits}
use Rattle.op_base.specs.Valid.{is_valid_update}
use Rattle.op_base.specs.declared.message.Message.{Message}
use Rattle.op_base.specs.declared.operation.Update.{Update}
use Rattle.causal_model.specs.Counts.{is_carried}
use Rattle.causal_model.specs.Journal.{notes_of, local_notes, beat_notes, receive_notes}
use Rattle.causal_model.specs.Receiving.{is_accepted, receive_rule}
use Rattle.causal_model.specs.Sending.{is_sent, is_beat, local_messages, beat_messages, local_rule, beat_rule}
use Rattle.causal_model.specs.State.{State}
use Rattle.causal_model.specs.declared.note.Note.{Note}
use Rattle.causal_model.specs.declared.outcome.Beat.{Beat}
use Rattle.causal_model.specs.declared.outcome.Beat.TheVariants as beat
use Rattle.causal_model.specs.declared.outcome.Local.{Local}
use Rattle.causal_model.specs.declared.outcome.Local.TheVariants as local
use Rattle.causal_model.specs.declared.outcome.Receive.{Receive}
use Rattle.causal_model.specs.declared.outcome.Receive.TheVariants as receive
use Rattle.frame_codec.specs.Grammar.{frame_of}
use Rattle.frame_codec.specs.declared.version.Version.TheVariants.{Two}
use Rattle.replica_node.specs.Nodes.{state_by}
use Rattle.replica_node.specs.Rules.{noting}
use Rattle.world_model.specs.Stops.{PlainKeep, keep_noted, keep_local_at, keep_beat_at, keep_give_of, keep_give_at}
use Rattle.world_model.specs.World.{size_of, replica_of, local_at, beat_at, offer_at, sent_message, wants_frame, takes_frame}
use Rattle.world_model.specs.declared.outcome.Given.{Given}
use Rattle.world_model.specs.declared.outcome.Given.TheVariants as given
use Rattle.honest_worlds.specs.Stops.{KeepsKeep}
use Rattle.honest_worlds.proofs.Stops.{local_is_kept, beat_is_kept, give_is_kept}
use Rattle.world.specs.Shows.{NotedNode, state_of, Shows}
use Rattle.world.specs.Steps.{IsFrameOf}
use Rattle.world.proofs.Follow.{Comes}
use Rattle.world.proofs.Givings.{IsGiven, message_given}
use Rattle.world.proofs.Nodes.{alike}
use Rattle.world.proofs.Replies.{Notes, replies_offer, replies_local, replies_beat}
use Rattle.replica_keeper.specs.Called.{state_in, HasNoted, ComesTo}
use Rattle.replica_keeper.specs.Open.{GoesOn, IsSame, notes_in}
use Rattle.replica_keeper.specs.ShowsKeep.{SteadyDurable, ShowsKeep}
use Rattle.replica_keeper.proofs.Calling.{received_wants_none}
use Rattle.replica_keeper.proofs.Showing.{node_after, same_node, StandsThere, member, stands_there, told_there, noted_keep}

-- an answer that is told isn't want of memory, where that wants none
told_leaves : {A S : Type 0} (no_memory : A) (needs : A → Bool) (made : A × S) (s : S) (answer : A) (Leaves : S → Type 0) → needs no_memory ≡ false → answer ≡ made.0 → Comes no_memory needs made s answer Leaves → Leaves made.1
told_leaves no_memory needs made s answer Leaves none is comes = elim comes [
  | inl told ↦ told.1
  | inr lost ↦ absurd (false≢true (sym none ∙ subst (λ x. IsTrue (needs x)) (sym is ∙ lost.0) lost.1))
]

-- what is told and noted follows the rule of notes
told_follows : {A : Type 0} (no_memory : A) (needs : A → Bool) (first : ℕ × ℕ) (notes_of : A → List Note) (rule : State → A × State) (node new : NotedNode) (answer : A)
    → node.first ≡ first → answer ≡ (rule (state_of node)).0 → new.journal.notes ≡ node.journal.notes ++ notes_of (rule (state_of node)).0 → Notes no_memory needs (noting first notes_of rule) node.journal.notes answer new.journal.notes
told_follows no_memory needs first notes_of rule node new answer from is noted ns there = inl (
  is ∙ ap (λ f. (rule (state_by f node.journal.notes)).0) from ∙ ap (λ x. (noting first notes_of rule x).0) there,
  noted ∙ ap (λ f. node.journal.notes ++ notes_of (rule (state_by f node.journal.notes)).0) from ∙ ap (λ x. (noting first notes_of rule x).1) there,
)

module _ {X : Type 0} (items : X → List (List ℕ)) (replicas : List SteadyDurable) (sent : List X) (keep : PlainKeep) (shows : ShowsKeep replicas (map items sent) keep)
    (r : ℕ) (low : r < length replicas) (it : SteadyDurable) (at : it ≡ slice_index_or replicas r it) where
  abbrev rows : List (List (List ℕ))
  rows = map items sent

  abbrev there : StandsThere replicas rows keep shows.nodes r it
  there = stands_there replicas rows keep shows r low it at

  abbrev node : NotedNode
  node = there.node

  module _ (new : SteadyDurable) where
    abbrev next : (what : List Note) → HasNoted it new what → (left : NotedNode) × (new.node ≡ Some left) × IsSame node left
    next what noted = node_after node new.node (subst (λ o. GoesOn o new.node) there.keeps.opened noted.same)

    noted_next : (what : List Note) (noted : HasNoted it new what) → (next what noted).0.journal.notes ≡ node.journal.notes ++ what
    noted_next what noted = ap notes_in (sym (next what noted).1) ∙ noted.noted ∙ ap (λ o. notes_in o ++ what) there.keeps.opened

    module _ (row row' : X) (row_at : row ≡ slice_index_or sent r row) where
      frames_there : (ms : List Message) → items row' ≡ items row ++ map (frame_of Two it.n 0) ms → items row' ≡ items row ++ map (frame_of Two node.inner.n node.inner.epoch) ms
      frames_there ms is = is ∙ ap (λ n. items row ++ map (frame_of Two n 0) ms) (sym there.kept.n) ∙ ap (λ e. items row ++ map (frame_of Two node.inner.n e) ms) (sym there.kept.opened.epoch)

      -- an update is sent, or refused
      pub local_keep : (update : Update) (answer : Local) → IsTrue (is_valid_update update)
          → (let told = (local_rule it.w it.limit update (state_in it)).0 in ComesTo local.NoMemory is_sent told answer (HasNoted it new (local_notes told) × (items row' ≡ items row ++ map (frame_of Two it.n 0) (local_messages told))))
          → ComesTo local.NoMemory is_sent (keep_local_at r update keep).0 answer (ShowsKeep (slice_set replicas r new) (map items (slice_set sent r row')) (keep_local_at r update keep).1)
      local_keep update answer valid comes =
          let told_is = told_there replicas rows keep shows r low it at (λ w limit s. (local_rule w limit update s).0) in
          let told' = (local_at r update keep.world).0 in
          elim comes [
            | inl made ↦
                let is = made.0 ∙ told_is in
                let noted = subst (λ t. HasNoted it new (local_notes t)) told_is made.1.0 in
                let left = next (local_notes told') noted in
                let here = alike shows.nodes rows keep.world shows.shows r node there.stands (λ w limit s. (local_rule w limit update s).0) in
                let follows = told_follows local.NoMemory is_sent node.first local_notes (local_rule node.inner.w node.inner.limit update) node left.0 answer refl (is ∙ sym here) (noted_next (local_notes told') noted ∙ ap (λ t. node.journal.notes ++ local_notes t) (sym here)) in
                let frames = frames_there (local_messages answer) (made.1.1 ∙ ap (λ t. items row ++ map (frame_of Two it.n 0) (local_messages t)) (sym made.0)) in
                let shown = told_leaves local.NoMemory is_sent (local_at r update keep.world) keep.world answer (Shows (slice_set shows.nodes r left.0) (map items (slice_set sent r row'))) refl is
                (replies_local items shows.nodes sent keep.world shows.shows r node left.0 row row' there.stands (same_node node left.0 left.2) row_at update answer valid frames follows) in
                inl (is, noted_keep replicas rows keep shows r low it at new (local_notes told') noted (map items (slice_set sent r row')) (local_at r update keep.world).1 (local_is_kept keep r update shows.is_keep (member replicas rows keep shows r low) valid) shown)
            | inr lost ↦ inr (lost.0, subst (λ t. IsTrue (is_sent t)) told_is lost.1)
          ]

      -- a no-op is sent, or none is due
      pub beat_keep : (answer : Beat)
          → (let told = (beat_rule it.w it.limit (state_in it)).0 in ComesTo beat.NoMemory is_beat told answer (HasNoted it new (beat_notes told) × (items row' ≡ items row ++ map (frame_of Two it.n 0) (beat_messages told))))
          → ComesTo beat.NoMemory is_beat (keep_beat_at r keep).0 answer (ShowsKeep (slice_set replicas r new) (map items (slice_set sent r row')) (keep_beat_at r keep).1)
      beat_keep answer comes =
          let told_is = told_there replicas rows keep shows r low it at (λ w limit s. (beat_rule w limit s).0) in
          let told' = (beat_at r keep.world).0 in
          elim comes [
            | inl made ↦
                let is = made.0 ∙ told_is in
                let noted = subst (λ t. HasNoted it new (beat_notes t)) told_is made.1.0 in
                let left = next (beat_notes told') noted in
                let here = alike shows.nodes rows keep.world shows.shows r node there.stands (λ w limit s. (beat_rule w limit s).0) in
                let follows = told_follows beat.NoMemory is_beat node.first beat_notes (beat_rule node.inner.w node.inner.limit) node left.0 answer refl (is ∙ sym here) (noted_next (beat_notes told') noted ∙ ap (λ t. node.journal.notes ++ beat_notes t) (sym here)) in
                let frames = frames_there (beat_messages answer) (made.1.1 ∙ ap (λ t. items row ++ map (frame_of Two it.n 0) (beat_messages t)) (sym made.0)) in
                let shown = told_leaves beat.NoMemory is_beat (beat_at r keep.world) keep.world answer (Shows (slice_set shows.nodes r left.0) (map items (slice_set sent r row'))) refl is
                (replies_beat items shows.nodes sent keep.world shows.shows r node left.0 row row' there.stands (same_node node left.0 left.2) row_at answer frames follows) in
                inl (is, noted_keep replicas rows keep shows r low it at new (beat_notes told') noted (map items (slice_set sent r row')) (beat_at r keep.world).1 (beat_is_kept keep r shows.is_keep (member replicas rows keep shows r low)) shown)
            | inr lost ↦ inr (lost.0, subst (λ t. IsTrue (is_beat t)) told_is lost.1)
          ]

    -- a message of the store is offered
    pub offer_keep : (m : Message) (answer : Receive) (needs : Receive → Bool) → IsTrue (fits (size_of keep.world) m) → IsTrue (is_carried keep.world.limit m) → KeepsKeep keep (keep_noted r (receive_notes m (offer_at r m keep.world).0) (offer_at r m keep.world).1 keep)
        → (let told = (receive_rule it.w m (state_in it)).0 in ComesTo receive.NoMemory needs told answer (HasNoted it new (receive_notes m told)))
        → ComesTo receive.NoMemory needs (offer_at r m keep.world).0 answer (ShowsKeep (slice_set replicas r new) rows (keep_noted r (receive_notes m (offer_at r m keep.world).0) (offer_at r m keep.world).1 keep))
    offer_keep m answer needs fit carried keeps comes =
        let told_is = told_there replicas rows keep shows r low it at (λ w limit s. (receive_rule w m s).0) in
        let told' = (offer_at r m keep.world).0 in
        elim comes [
          | inl made ↦
              let is = made.0 ∙ told_is in
              let noted = subst (λ t. HasNoted it new (receive_notes m t)) told_is made.1 in
              let left = next (receive_notes m told') noted in
              let here = alike shows.nodes rows keep.world shows.shows r node there.stands (λ w limit s. (receive_rule w m s).0) in
              let follows = told_follows receive.NoMemory is_accepted node.first (receive_notes m) (receive_rule node.inner.w m) node left.0 answer refl (is ∙ sym here) (noted_next (receive_notes m told') noted ∙ ap (λ t. node.journal.notes ++ receive_notes m t) (sym here)) in
              let shown = told_leaves receive.NoMemory is_accepted (offer_at r m keep.world) keep.world answer (Shows (slice_set shows.nodes r left.0) rows) refl is
              (replies_offer shows.nodes rows keep.world shows.shows r node there.stands left.0 (same_node node left.0 left.2) receive.NoMemory is_accepted (λ got. got) (noting node.first (receive_notes m) (receive_rule node.inner.w m)) m answer fit carried refl follows) in
              inl (is, noted_keep replicas rows keep shows r low it at new (receive_notes m told') noted rows (offer_at r m keep.world).1 keeps shown)
          | inr lost ↦ inr (lost.0, subst (λ t. IsTrue (needs t)) told_is lost.1)
        ]

    -- the message of member k with a number is given, where it was sent: this is its frame
    module _ (k : ℕ) (from : k < length replicas) (row : X) (row_at : row ≡ slice_index_or sent k row) (seq : ℕ) (some : seq ≢ 0) (most : seq ≤ length (items row)) (frame : List ℕ) (is : frame ≡ slice_index_or (items row) (seq - 1) frame) where
      pub given_there : (m : Message) × IsGiven keep.world k seq it.n 0 it.limit frame m
      given_there =
          let one = message_given items shows.nodes sent keep.world shows.shows k row (omega (arith, from, shows.count)) row_at r node there.stands seq some most frame is in
          let P : ℕ → ℕ → ℕ → Type 0 = λ n epoch limit. IsFrameOf n epoch limit (record { origin = k; seq = seq }) frame one.0 in (
            one.0,
            record {
              sent = one.1.sent;
              fit = one.1.fit;
              carried = one.1.carried;
              is = subst (λ n. P n 0 it.limit) there.kept.n (subst (λ epoch. P node.inner.n epoch it.limit) there.kept.opened.epoch (subst (λ limit. P node.inner.n node.inner.epoch limit) there.kept.limit one.1.is));
            },
          )

      pub give_keep : (answer : Receive)
          → (let m = given_there.0 in let told = (receive_rule it.w m (state_in it)).0 in ComesTo receive.NoMemory wants_frame told answer (HasNoted it new (receive_notes m told)))
          → ComesTo (given.Got receive.NoMemory) takes_frame (keep_give_at r k seq keep).0 (given.Got answer) (ShowsKeep (slice_set replicas r new) rows (keep_give_at r k seq keep).1)
      give_keep answer comes =
          let one = given_there in
          let m = one.0 in
          let kept = give_is_kept keep r k seq shows.is_keep (member replicas rows keep shows r low) (member replicas rows keep shows k from) in
          let keeps : KeepsKeep keep (keep_give_of r keep (Some m)).1 = subst (λ o. KeepsKeep keep (keep_give_of r keep o).1) one.1.sent kept in
          let Comes' : Option Message → Type 0 = λ o. ComesTo (given.Got receive.NoMemory) takes_frame (keep_give_of r keep o).0 (given.Got answer) (ShowsKeep (slice_set replicas r new) rows (keep_give_of r keep o).1) in
          let here : Comes' (Some m) = elim (offer_keep m answer wants_frame one.1.fit one.1.carried keeps comes) [
            | inl made ↦ inl (ap (λ a. given.Got a) made.0, made.1)
            | inr lost ↦ inr (ap (λ a. given.Got a) lost.0, lost.1)
          ] in
          subst Comes' (sym one.1.sent) here

-- where none was sent with the number, none is given
pub none_keep : (keep : PlainKeep) (r k seq : ℕ) (Leaves : PlainKeep → Type 0) → sent_message keep.world k seq ≡ None → Leaves keep
    → ((given.Unsent ≡ (keep_give_at r k seq keep).0) × Leaves (keep_give_at r k seq keep).1) ⊎ ((given.Unsent ≡ given.Got receive.NoMemory) × IsTrue (takes_frame (keep_give_at r k seq keep).0))
none_keep keep r k seq Leaves none here =
    subst (λ o. ((given.Unsent ≡ (keep_give_of r keep o).0) × Leaves (keep_give_of r keep o).1) ⊎ ((given.Unsent ≡ given.Got receive.NoMemory) × IsTrue (takes_frame (keep_give_of r keep o).0))) (sym none) (inl (refl, here))

-- giving knows no want of memory
abbrev got_of : Given → Receive
got_of (given.Got answer) = answer
got_of given.Unsent = receive.Old

pub got_back : {a b : Receive} → given.Got a ≡ given.Got b → a ≡ b
got_back e = ap got_of e

pub given_wants_none : (keep : PlainKeep) (r : ℕ) (o : Option Message) → (keep_give_of r keep o).0 ≡ given.Got receive.NoMemory → ⊥
given_wants_none keep r None e = cc
given_wants_none keep r (Some m) e = received_wants_none keep.world.w m (replica_of keep.world r) (ap got_of e)
