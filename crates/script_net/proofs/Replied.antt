-- Each command is replied to in a plain world.
use Rattle.std.proofs.Common.{◌≢◌, ℕ, Bool, true, false, not, ◌==◌, cond, List, [], ◌∷◌, Option, Some, None, Result, Ok, Err}
use Rattle.op_base.specs.declared.message.Message.{Message}
use Rattle.op_base.specs.declared.outcome.Step.{Step}
use Rattle.causal_model.specs.Receiving.{accepted, steps, with_early, refusal_of, receive_by}
use Rattle.causal_model.specs.declared.outcome.Local.TheVariants as local
use Rattle.causal_model.specs.declared.outcome.Beat.TheVariants as beat
use Rattle.causal_model.specs.declared.outcome.Refusal.{Refusal}
use Rattle.causal_model.specs.declared.outcome.Refusal.TheVariants as refusal
use Rattle.frame_codec.specs.declared.fault.FrameFault.{FrameFault}
use Rattle.script_lang.specs.declared.command.Command.TheVariants as command
use Rattle.script_lang.specs.declared.reply.Reply.{Reply}
use Rattle.world_model.specs.Offering.{offered_between, resent_of}
use Rattle.world_model.specs.Raw.{read_at, raw_of}
use Rattle.world_model.specs.Regrouping.{last_epoch, is_at_rest, next_world}
use Rattle.world_model.specs.Settling.{world_settled, is_quiescent}
use Rattle.world_model.specs.Stops.{PlainKeep, keep_give_of}
use Rattle.world_model.specs.World.{PlainWorld, epoch_in, replica_of, sent_message, give_of}
use Rattle.world_model.specs.declared.outcome.Regroup.{Regroup}
use Rattle.world_model.specs.declared.outcome.Regroup.TheVariants as regroup
use Rattle.world_model.specs.declared.outcome.Settle.TheVariants as settle
use Rattle.script_net.specs.Commands.{local_reply, beat_reply, receive_reply, given_reply, resent_reply, raw_reply, settle_reply, regroup_reply}
use Rattle.script_net.specs.Laws.{CommandsAreRepliedTo, KeepCommandsAreRepliedTo}

-- something is replied
is_there : (reply : Reply) → Some reply ≢ None
is_there reply e = cc e

sending_is_replied_to : (full all : Bool) (own : Message) → local_reply (cond full local.Busy (cond all local.End (local.Sent own))) ≢ None
sending_is_replied_to true all own = is_there _
sending_is_replied_to false true own = is_there _
sending_is_replied_to false false own = is_there _

beat_is_replied_to : (quiet full all : Bool) (own : Message) → beat_reply (cond quiet beat.Quiet (cond full beat.Held (cond all beat.End (beat.Sent own)))) ≢ None
beat_is_replied_to true full all own = is_there _
beat_is_replied_to false true all own = is_there _
beat_is_replied_to false false true own = is_there _
beat_is_replied_to false false false own = is_there _

accepted_is_replied_to : (made : List Step) → receive_reply (accepted made) ≢ None
accepted_is_replied_to [] = is_there _
accepted_is_replied_to (step ∷ made) = is_there _

offer_is_replied_to : (world : PlainWorld) (r : ℕ) (m : Message) (o : Option Refusal) → receive_reply (receive_by world.w m (replica_of world r) o).0 ≢ None
offer_is_replied_to world r m (Some refusal.Old) = is_there _
offer_is_replied_to world r m (Some refusal.Again) = is_there _
offer_is_replied_to world r m (Some refusal.Far) = is_there _
offer_is_replied_to world r m None = accepted_is_replied_to (steps world.w (with_early (replica_of world r) m)).0

message_is_replied_to : (world : PlainWorld) (r : ℕ) (m : Message) → receive_reply (receive_by world.w m (replica_of world r) (refusal_of world.w (replica_of world r) m)).0 ≢ None
message_is_replied_to world r m = offer_is_replied_to world r m (refusal_of world.w (replica_of world r) m)

giving_is_replied_to : (world : PlainWorld) (r : ℕ) (o : Option Message) → given_reply (give_of r world o).0 ≢ None
giving_is_replied_to world r None = is_there _
giving_is_replied_to world r (Some m) = message_is_replied_to world r m

bytes_are_replied_to : (world : PlainWorld) (r : ℕ) (o : Result Message FrameFault) → raw_reply (raw_of r world o).0 ≢ None
bytes_are_replied_to world r (Err fault) = is_there _
bytes_are_replied_to world r (Ok m) = message_is_replied_to world r m

outbox_is_replied_to : (made : List Step) (kept : Bool) → resent_reply (resent_of made kept) ≢ None
outbox_is_replied_to [] true = is_there _
outbox_is_replied_to [] false = is_there _
outbox_is_replied_to (step ∷ made) kept = is_there _

settling_is_replied_to : (settled : Bool) → settle_reply (cond settled settle.Settled settle.Unsettled) ≢ None
settling_is_replied_to true = is_there _
settling_is_replied_to false = is_there _

regrouping_is_replied_to : (last moves : Bool) (epoch : ℕ) (world after : PlainWorld) → regroup_reply (cond {A = Regroup × PlainWorld} last (regroup.Last, world) (cond moves (regroup.Unsettled, world) (regroup.Regrouped epoch, after))).0 ≢ None
regrouping_is_replied_to true moves epoch world after = is_there _
regrouping_is_replied_to false true epoch world after = is_there _
regrouping_is_replied_to false false epoch world after = is_there _

pub commands_are_replied_to : CommandsAreRepliedTo
commands_are_replied_to (command.Do r update) world = sending_is_replied_to _ _ _
commands_are_replied_to (command.Ask r object) world = is_there _
commands_are_replied_to (command.Beat r) world = beat_is_replied_to _ _ _ _
commands_are_replied_to (command.Give r k s) world = giving_is_replied_to world r (sent_message world k s)
commands_are_replied_to (command.Resend r k) world = outbox_is_replied_to (offered_between world r k).steps (offered_between world r k).kept
commands_are_replied_to (command.Raw r bytes) world = bytes_are_replied_to world r (read_at world r bytes)
commands_are_replied_to command.Settle world = settling_is_replied_to (is_quiescent (world_settled world))
commands_are_replied_to (command.Members n) world = regrouping_is_replied_to (epoch_in world == last_epoch) (not (is_at_rest world)) _ world (next_world n world)
commands_are_replied_to (command.Ids r object) world = is_there _
commands_are_replied_to (command.Tombs r object) world = is_there _
commands_are_replied_to (command.Log r) world = is_there _
commands_are_replied_to (command.Size r) world = is_there _
commands_are_replied_to (command.Stable r) world = is_there _
commands_are_replied_to (command.Seen r) world = is_there _
commands_are_replied_to (command.Noops r) world = is_there _
commands_are_replied_to (command.Lags r) world = is_there _
commands_are_replied_to (command.Stop r b) world = is_there _

keep_giving_is_replied_to : (keep : PlainKeep) (r : ℕ) (o : Option Message) → given_reply (keep_give_of r keep o).0 ≢ None
keep_giving_is_replied_to keep r None = is_there _
keep_giving_is_replied_to keep r (Some m) = message_is_replied_to keep.world r m

pub keep_commands_are_replied_to : KeepCommandsAreRepliedTo
keep_commands_are_replied_to (command.Do r update) keep = sending_is_replied_to _ _ _
keep_commands_are_replied_to (command.Ask r object) keep = is_there _
keep_commands_are_replied_to (command.Beat r) keep = beat_is_replied_to _ _ _ _
keep_commands_are_replied_to (command.Give r k s) keep = keep_giving_is_replied_to keep r (sent_message keep.world k s)
keep_commands_are_replied_to (command.Resend r k) keep = is_there _
keep_commands_are_replied_to (command.Raw r bytes) keep = is_there _
keep_commands_are_replied_to command.Settle keep = is_there _
keep_commands_are_replied_to (command.Members n) keep = is_there _
keep_commands_are_replied_to (command.Ids r object) keep = is_there _
keep_commands_are_replied_to (command.Tombs r object) keep = is_there _
keep_commands_are_replied_to (command.Log r) keep = is_there _
keep_commands_are_replied_to (command.Size r) keep = is_there _
keep_commands_are_replied_to (command.Stable r) keep = is_there _
keep_commands_are_replied_to (command.Seen r) keep = is_there _
keep_commands_are_replied_to (command.Noops r) keep = is_there _
keep_commands_are_replied_to (command.Lags r) keep = is_there _
keep_commands_are_replied_to (command.Stop r b) keep = is_there _
