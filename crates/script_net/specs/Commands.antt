-- What each command of a script does to a plain world or to a plain keep world, and what is replied.
use Rattle.std.specs.Prelude.{Option, Some, None}
use Rattle.op_base.specs.Message.{number}
use Rattle.causal_model.specs.declared.outcome.Beat.{Beat as ABeat}
use Rattle.causal_model.specs.declared.outcome.Beat.TheVariants as beat
use Rattle.causal_model.specs.declared.outcome.Local.{Local}
use Rattle.causal_model.specs.declared.outcome.Local.TheVariants as local
use Rattle.causal_model.specs.declared.outcome.Receive.{Receive}
use Rattle.causal_model.specs.declared.outcome.Receive.TheVariants as receive
use Rattle.frame_codec.specs.Fault.{fault_number}
use Rattle.script_lang.specs.declared.command.Command.{Command}
use Rattle.script_lang.specs.declared.command.Command.TheVariants.{Do, Ask, Beat, Give, Resend, Raw, Settle, Members, Ids, Tombs, Log, Size, Stable, Seen, Noops, Lags, Stop}
use Rattle.script_lang.specs.declared.reply.Reply.{Reply}
use Rattle.script_lang.specs.declared.reply.Reply.TheVariants as reply
use Rattle.world_model.specs.World.{PlainWorld, size_of, local_at, beat_at, give_at}
use Rattle.world_model.specs.Offering.{resend_at}
use Rattle.world_model.specs.Raw.{raw_at}
use Rattle.world_model.specs.Regrouping.{regroup_at}
use Rattle.world_model.specs.Settling.{settle_at}
use Rattle.world_model.specs.Stops.{PlainKeep, keep_local_at, keep_beat_at, keep_give_at, keep_stop_at}
use Rattle.world_model.specs.Showing.{answer_at, list_ids_at, tombs_at, log_at, entries_at, items_at, stable_at, seen_at, noops_at, lags_at}
use Rattle.world_model.specs.declared.outcome.Given.{Given}
use Rattle.world_model.specs.declared.outcome.Given.TheVariants as given
use Rattle.world_model.specs.declared.outcome.RawGot.{RawGot}
use Rattle.world_model.specs.declared.outcome.RawGot.TheVariants as raw
use Rattle.world_model.specs.declared.outcome.Regroup.{Regroup}
use Rattle.world_model.specs.declared.outcome.Regroup.TheVariants as regroup
use Rattle.world_model.specs.declared.outcome.Resent.{Resent}
use Rattle.world_model.specs.declared.outcome.Resent.TheVariants as resent
use Rattle.world_model.specs.declared.outcome.Settle.{Settle as ASettle}
use Rattle.world_model.specs.declared.outcome.Settle.TheVariants as settle

-- ---- what is replied to what came of a command: nothing to want of memory, of which a plain world knows none

-- sending an operation: the message's number
abbrev pub local_reply : Local → Option Reply
local_reply (local.Sent m) = Some (reply.Sent (number m))
local_reply local.Busy = Some reply.Busy
local_reply local.End = Some reply.End
local_reply local.NoMemory = None

-- sending a no-op
abbrev pub beat_reply : ABeat → Option Reply
beat_reply (beat.Sent m) = Some (reply.Sent (number m))
beat_reply beat.Quiet = Some reply.Quiet
beat_reply beat.Held = Some reply.Held
beat_reply beat.End = Some reply.End
beat_reply beat.NoMemory = None

-- receiving a message
abbrev pub receive_reply : Receive → Option Reply
receive_reply receive.Old = Some reply.Old
receive_reply receive.Again = Some reply.Again
receive_reply receive.Far = Some reply.Far
receive_reply receive.Kept = Some reply.Kept
receive_reply (receive.Took steps) = Some (reply.Took steps)
receive_reply receive.NoMemory = None

-- giving a message
abbrev pub given_reply : Given → Option Reply
given_reply given.Unsent = Some reply.Unsent
given_reply (given.Got answer) = receive_reply answer

-- resending an outbox
abbrev pub resent_reply : Resent → Option Reply
resent_reply (resent.Took steps) = Some (reply.Took steps)
resent_reply resent.Kept = Some reply.Kept
resent_reply resent.Nothing = Some reply.Nothing
resent_reply resent.NoMemory = None

-- bytes
abbrev pub raw_reply : RawGot → Option Reply
raw_reply (raw.Bad fault) = Some (reply.BadFrame (fault_number fault))
raw_reply (raw.Got answer) = receive_reply answer
raw_reply raw.NoMemory = None

-- settling
abbrev pub settle_reply : ASettle → Option Reply
settle_reply settle.Settled = Some reply.Settled
settle_reply settle.Unsettled = Some reply.Unsettled
settle_reply settle.NoMemory = None

-- a change of members: the epoch that began
abbrev pub regroup_reply : Regroup → Option Reply
regroup_reply (regroup.Regrouped epoch) = Some (reply.Epoch epoch)
regroup_reply regroup.Unsettled = Some reply.Unsettled
regroup_reply regroup.Last = Some reply.Last
regroup_reply regroup.NoMemory = None

-- to a command that scripts of this header don't have, of which no line is one: as to a line whose first word is no command's
abbrev pub no_command : Option Reply
no_command = Some (reply.Bad 2)

-- ---- commands

-- the reply to a command in a plain world, and the plain world after it
abbrev pub command_at : Command → PlainWorld → Option Reply × PlainWorld
command_at (Do r update) world = let made = local_at r update world in (local_reply made.0, made.1)
command_at (Ask r object) world = (Some (reply.Is (answer_at world r object)), world)
command_at (Beat r) world = let made = beat_at r world in (beat_reply made.0, made.1)
command_at (Give r k s) world = let made = give_at r k s world in (given_reply made.0, made.1)
command_at (Resend r k) world = let made = resend_at r k world in (resent_reply made.0, made.1)
command_at (Raw r bytes) world = let made = raw_at r bytes world in (raw_reply made.0, made.1)
command_at Settle world = let made = settle_at world in (settle_reply made.0, made.1)
command_at (Members n) world = let made = regroup_at n world in (regroup_reply made.0, made.1)
command_at (Ids r object) world = (Some (reply.Ids (list_ids_at world r object)), world)
command_at (Tombs r object) world = (Some (reply.Tombs (tombs_at world r object)), world)
command_at (Log r) world = (Some (reply.Log (log_at world r)), world)
command_at (Size r) world = (Some (reply.Size (entries_at world r) (items_at world r)), world)
command_at (Stable r) world = (Some (reply.Stable (size_of world) (stable_at world r)), world)
command_at (Seen r) world = (Some (reply.Seen (size_of world) (seen_at world r)), world)
command_at (Noops r) world = (Some (reply.Noops (noops_at world r)), world)
command_at (Lags r) world = (Some (reply.Lags (lags_at world r)), world)
command_at (Stop r b) world = (no_command, world)

-- the same in a plain keep world
abbrev pub keep_command_at : Command → PlainKeep → Option Reply × PlainKeep
keep_command_at (Do r update) keep = let made = keep_local_at r update keep in (local_reply made.0, made.1)
keep_command_at (Ask r object) keep = (Some (reply.Is (answer_at keep.world r object)), keep)
keep_command_at (Beat r) keep = let made = keep_beat_at r keep in (beat_reply made.0, made.1)
keep_command_at (Give r k s) keep = let made = keep_give_at r k s keep in (given_reply made.0, made.1)
keep_command_at (Ids r object) keep = (Some (reply.Ids (list_ids_at keep.world r object)), keep)
keep_command_at (Tombs r object) keep = (Some (reply.Tombs (tombs_at keep.world r object)), keep)
keep_command_at (Log r) keep = (Some (reply.Log (log_at keep.world r)), keep)
keep_command_at (Size r) keep = (Some (reply.Size (entries_at keep.world r) (items_at keep.world r)), keep)
keep_command_at (Stable r) keep = (Some (reply.Stable (size_of keep.world) (stable_at keep.world r)), keep)
keep_command_at (Seen r) keep = (Some (reply.Seen (size_of keep.world) (seen_at keep.world r)), keep)
keep_command_at (Stop r b) keep = let made = keep_stop_at r b keep in (Some (reply.Open made.0), made.1)
keep_command_at other keep = (no_command, keep)
