-- What a world of durable replicas that shows a plain keep world has of it.
use Rattle.std.proofs.Common.{◌≡◌, ℕ, ◌<◌, ◌∙◌, false, List, length, map, inl, inr, sym, ap, subst}
use Rattle.std.proofs.Math.Logic.{∥∥₁_elim}
use Rattle.std.proofs.Props.{props}
use Rattle.std.proofs.lemmas.List.{length-map}
use Rattle.op_base.specs.declared.operation.Update.{Update}
use Rattle.causal_model.specs.Sending.{is_sent, is_beat, local_messages, beat_messages}
use Rattle.causal_model.specs.declared.outcome.Local.{Local}
use Rattle.causal_model.specs.declared.outcome.Local.TheVariants as local
use Rattle.causal_model.specs.declared.outcome.Beat.{Beat}
use Rattle.causal_model.specs.declared.outcome.Beat.TheVariants as beat
use Rattle.replica_keeper.specs.ShowsKeep.{ShowsKeep}
use Rattle.replica_keeper.specs.Worlds.{Shown, FollowsOrEnds}
use Rattle.replica_keeper.specs.declared.keep_world.KeepWorld.{KeepWorld}
use Rattle.world.specs.Shows.{state_of}
use Rattle.world_model.specs.Stops.{PlainKeep, keep_local_at, keep_beat_at}
use Rattle.world_model.specs.Showing.{stable_at, seen_at}
use Rattle.world_model.specs.World.{size_of}
use Rattle.script_net.specs.Replied.{HaveNumbers}
use Rattle.script_net.proofs.Shown.{local_numbered, local_numbers, beat_numbered, beat_numbers, length-stable_at, length-seen_at}

-- there are as many replicas as members
pub as_many_replicas : (world : KeepWorld) (keep : PlainKeep) → Shown world keep → length world.replicas.items ≡ size_of keep.world
as_many_replicas world keep shown = sym shown.shows.count ∙ (sym (length-map shown.shows.nodes state_of) ∙ ap length shown.shows.shows.states)

module _ (world : KeepWorld) (goes_on : world.ended ≡ false) (r : ℕ) (l : r < length world.replicas.items) where
  there : (keep : PlainKeep) → ShowsKeep world.replicas.items (map (λ row. row.items) world.sent.items) keep → Shown world keep
  there keep shows = record { goes_on = goes_on; shows = shows }

  inside : (keep : PlainKeep) → Shown world keep → r < size_of keep.world
  inside keep shown = subst (λ n. r < n) (as_many_replicas world keep shown) l

  -- a message that a world sends has a number of its origin
  pub keep_local_has_number : (update : Update) (answer : Local) (new : KeepWorld) → FollowsOrEnds local.NoMemory is_sent (keep_local_at r update) world answer new → HaveNumbers (local_messages answer)
  keep_local_has_number update answer new follows =
      local_numbers answer (λ m sent. ∥∥₁_elim (world.shows goes_on) (search props) (λ found.
      let shown = there found.0 found.1 in
      elim (follows found.0 shown) [
        | inl a ↦ local_numbered found.0.world r found.1.shows.is_world (inside found.0 shown) update m (sym sent ∙ a.0)
        | inr a ↦ cc (a.0, sent)
      ]))

  pub keep_beat_has_number : (answer : Beat) (new : KeepWorld) → FollowsOrEnds beat.NoMemory is_beat (keep_beat_at r) world answer new → HaveNumbers (beat_messages answer)
  keep_beat_has_number answer new follows =
      beat_numbers answer (λ m sent. ∥∥₁_elim (world.shows goes_on) (search props) (λ found.
      let shown = there found.0 found.1 in
      elim (follows found.0 shown) [
        | inl a ↦ beat_numbered found.0.world r found.1.shows.is_world (inside found.0 shown) m (sym sent ∙ a.0)
        | inr a ↦ cc (a.0, sent)
      ]))

  -- what a world shows to be stable and seen has a number for each replica
  pub keep_stable_is_long : (tag : List ℕ) → ((keep : PlainKeep) → Shown world keep → tag ≡ stable_at keep.world r) → length tag ≡ length world.replicas.items
  keep_stable_is_long tag is =
      ∥∥₁_elim (world.shows goes_on) (search props) (λ found.
      let shown = there found.0 found.1 in
      ap length (is found.0 shown) ∙ length-stable_at found.0.world r found.1.shows.is_world (inside found.0 shown) ∙ sym (as_many_replicas world found.0 shown))

  pub keep_seen_is_long : (tag : List ℕ) → ((keep : PlainKeep) → Shown world keep → tag ≡ seen_at keep.world r) → length tag ≡ length world.replicas.items
  keep_seen_is_long tag is =
      ∥∥₁_elim (world.shows goes_on) (search props) (λ found.
      let shown = there found.0 found.1 in
      ap length (is found.0 shown) ∙ length-seen_at found.0.world r found.1.shows.is_world (inside found.0 shown) ∙ sym (as_many_replicas world found.0 shown))
