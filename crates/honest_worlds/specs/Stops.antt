-- What holds of plain keep worlds, whose replicas can be stopped: each is the honest world that the notes kept give, after each
-- stop too. Each statement is the contract of a function of laws.rt.
use Rattle.std.specs.Prelude.{◌≡◌, ℕ, ◌<◌, ◌≤◌, false, IsTrue, List, length, map, drop, All}
use Rattle.op_base.specs.Valid.{is_valid_update}
use Rattle.op_base.specs.declared.operation.Update.{Update}
use Rattle.causal_model.specs.Journal.{notes_of, AreGroups}
use Rattle.causal_model.specs.State.{start}
use Rattle.causal_model.specs.declared.note.Note.{Note}
use Rattle.world_model.specs.Honest.{IsHonest}
use Rattle.world_model.specs.Journals.{world_of_journals, AreJournals}
use Rattle.world_model.specs.Stops.{KeptGroups, PlainKeep, is_send, keep_opening, kept_by, keep_local_at, keep_beat_at, keep_give_at, keep_stop_at}
use Rattle.world_model.specs.World.{size_of}

-- the notes kept of each replica
abbrev pub notes_kept : PlainKeep → List (List Note)
notes_kept keep = map (λ k. notes_of k.groups) keep.kept

-- no more groups are synced than there are, and none behind those sends
pub record AreSynced (k : KeptGroups) : Type 0 where
  pub within : k.synced ≤ length k.groups
  pub unsent : All (λ group. is_send group ≡ false) (drop k.synced k.groups)

-- A keep world of 1 to 16 members, with a window of at least 1 and a limit of at most a million: what is kept of each replica are
-- groups that calls note by the rules, with what it sent synced; and the plain world is the one that these notes give.
pub record IsKeep (keep : PlainKeep) : Type 0 where
  pub some : 1 ≤ size_of keep.world
  pub few : size_of keep.world ≤ 16
  pub wide : 1 ≤ keep.world.w
  pub most : keep.world.limit ≤ 1000000
  pub of_each : length keep.kept ≡ size_of keep.world
  pub groups : (r : ℕ) → r < size_of keep.world → AreGroups keep.world.w keep.world.limit (start (size_of keep.world) r) (kept_by keep r).groups
  pub synced : (r : ℕ) → r < size_of keep.world → AreSynced (kept_by keep r)
  pub journals : AreJournals (size_of keep.world) keep.world.w keep.world.limit (notes_kept keep)
  pub world : keep.world ≡ world_of_journals (size_of keep.world) keep.world.w keep.world.limit (notes_kept keep)

-- a keep world of the same store
pub record KeepsKeep (keep after : PlainKeep) : Type 0 where
  pub is_keep : IsKeep after
  pub size : size_of after.world ≡ size_of keep.world
  pub w : after.world.w ≡ keep.world.w
  pub limit : after.world.limit ≡ keep.world.limit

-- its plain world is honest: no frame is forged, and a stop forgets nothing that a member let out
abbrev pub KeptIsHonest : Type 0
KeptIsHonest = (keep : PlainKeep) → IsKeep keep → IsHonest keep.world

abbrev pub OpeningIsKept : Type 0
OpeningIsKept = (n w limit : ℕ) → 1 ≤ n → n ≤ 16 → 1 ≤ w → limit ≤ 1000000 → IsKeep (keep_opening n w limit)

-- each command leaves a keep world of the same store: sending an update, a no-op, giving a message, and a stop
abbrev pub LocalIsKept : Type 0
LocalIsKept = (keep : PlainKeep) (r : ℕ) (update : Update) → IsKeep keep → r < size_of keep.world → IsTrue (is_valid_update update) → KeepsKeep keep (keep_local_at r update keep).1

abbrev pub BeatIsKept : Type 0
BeatIsKept = (keep : PlainKeep) (r : ℕ) → IsKeep keep → r < size_of keep.world → KeepsKeep keep (keep_beat_at r keep).1

abbrev pub GiveIsKept : Type 0
GiveIsKept = (keep : PlainKeep) (r k seq : ℕ) → IsKeep keep → r < size_of keep.world → k < size_of keep.world → KeepsKeep keep (keep_give_at r k seq keep).1

abbrev pub StopIsKept : Type 0
StopIsKept = (keep : PlainKeep) (r b : ℕ) → IsKeep keep → r < size_of keep.world → KeepsKeep keep (keep_stop_at r b keep).1
