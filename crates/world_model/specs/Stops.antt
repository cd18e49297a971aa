-- The plain keep world: plain replicas that can be stopped. Beside each stand the groups of its notes, of which the first are
-- synced: a stop loses what isn't, but for a front of it. Each command but a stop does and answers what it does in a plain
-- world. That a send syncs all is this project's own profile.
use Rattle.std.specs.Prelude.{ℕ, ◌+◌, ◌-◌, Bool, true, false, nat_le, List, [], ◌∷◌, ◌++◌, map, length, take, drop, slice_set, Option, Some, None, if◌then◌else◌}
use Rattle.std.specs.List.{slice_index_or}
use Rattle.op_base.specs.declared.message.Message.{Message}
use Rattle.op_base.specs.declared.operation.Update.{Update}
use Rattle.causal_model.specs.Counts.{members}
use Rattle.causal_model.specs.Journal.{notes_of, replay, local_notes, beat_notes, receive_notes}
use Rattle.causal_model.specs.declared.note.Note.{Note}
use Rattle.causal_model.specs.declared.note.Note.TheVariants.{Sent, Kept, Took, Crook, Regroup}
use Rattle.causal_model.specs.declared.outcome.Beat.{Beat}
use Rattle.causal_model.specs.declared.outcome.Local.{Local}
use Rattle.world_model.specs.Records.{record_of}
use Rattle.world_model.specs.World.{PlainWorld, size_of, opening, with_state, local_at, beat_at, offer_at, sent_message}
use Rattle.world_model.specs.declared.outcome.Given.{Given}
use Rattle.world_model.specs.declared.outcome.Given.TheVariants as given

-- ---- groups that are kept

-- a replica's groups of notes, oldest first, and how many of them are synced
pub record KeptGroups : Type 0 where
  pub groups : List (List Note)
  pub synced : ℕ

abbrev pub none_kept : KeptGroups
none_kept = record { groups = []; synced = 0 }

-- whether a group sends
abbrev pub is_send : List Note → Bool
is_send [] = false
is_send (Sent m ∷ notes) = true
is_send (Kept m ∷ notes) = false
is_send (Took id ∷ notes) = false
is_send (Crook id ∷ notes) = false
is_send (Regroup epoch n me ∷ notes) = false

-- groups with what a call noted, which is a group where it noted something: one that sends has all synced
abbrev pub with_notes : KeptGroups → List Note → KeptGroups
with_notes k [] = k
with_notes k (note ∷ notes) =
    record { groups = k.groups ++ (note ∷ notes) ∷ []; synced = if is_send (note ∷ notes) then length k.groups + 1 else k.synced }

-- the first groups whose records have at most so many bytes together
abbrev pub within_bytes : ℕ → ℕ → List (List Note) → List (List Note)
within_bytes n b [] = []
within_bytes n b (group ∷ groups) =
    if nat_le (length (record_of n group)) b then group ∷ within_bytes n (b - length (record_of n group)) groups else []

-- what a stop leaves of groups: those that are synced, and whole ones behind them as far as b bytes go
abbrev pub groups_left : ℕ → ℕ → KeptGroups → List (List Note)
groups_left n b k = take k.synced k.groups ++ within_bytes n b (drop k.synced k.groups)

-- ---- the world

-- a plain world, and what is kept of each replica
pub record PlainKeep : Type 0 where
  pub world : PlainWorld
  pub kept : List KeptGroups

-- the world of n members before anything was sent or received
abbrev pub keep_opening : ℕ → ℕ → ℕ → PlainKeep
keep_opening n w limit = record { world = opening n w limit; kept = map (λ me. none_kept) (members n) }

-- what is kept of a member's replica
abbrev pub kept_by : PlainKeep → ℕ → KeptGroups
kept_by keep r = slice_index_or keep.kept r none_kept

-- the world once a call of replica r noted this, and left a plain world
abbrev pub keep_noted : ℕ → List Note → PlainWorld → PlainKeep → PlainKeep
keep_noted r notes world keep = record { world = world; kept = slice_set keep.kept r (with_notes (kept_by keep r) notes) }

-- ---- the rules of the world: what comes of a command, and the world after it

-- sending an update at a replica
abbrev pub keep_local_at : ℕ → Update → PlainKeep → Local × PlainKeep
keep_local_at r update keep = let made = local_at r update keep.world in (made.0, keep_noted r (local_notes made.0) made.1 keep)

-- sending a no-op at a replica
abbrev pub keep_beat_at : ℕ → PlainKeep → Beat × PlainKeep
keep_beat_at r keep = let made = beat_at r keep.world in (made.0, keep_noted r (beat_notes made.0) made.1 keep)

-- giving a message to a replica, where one was sent
abbrev pub keep_give_of : ℕ → PlainKeep → Option Message → Given × PlainKeep
keep_give_of r keep None = (given.Unsent, keep)
keep_give_of r keep (Some m) = let made = offer_at r m keep.world in (given.Got made.0, keep_noted r (receive_notes m made.0) made.1 keep)

-- giving the message of member k with a number to replica r
abbrev pub keep_give_at : ℕ → ℕ → ℕ → PlainKeep → Given × PlainKeep
keep_give_at r k seq keep = keep_give_of r keep (sent_message keep.world k seq)

-- the world once replica r was stopped and opened again with these groups: its state is their replay, and all are synced
abbrev pub keep_opened : ℕ → List (List Note) → PlainKeep → PlainKeep
keep_opened r groups keep =
    record { world = with_state keep.world r (replay (size_of keep.world) r (notes_of groups)); kept = slice_set keep.kept r (record { groups = groups; synced = length groups }) }

-- stopping replica r so that b bytes outlive it behind those synced, and opening it again: how many notes it then has
abbrev pub keep_stop_at : ℕ → ℕ → PlainKeep → ℕ × PlainKeep
keep_stop_at r b keep = let groups = groups_left (size_of keep.world) b (kept_by keep r) in (length (notes_of groups), keep_opened r groups keep)
