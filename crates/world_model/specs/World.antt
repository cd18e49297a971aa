-- The plain world: replicas that keep every message that they deliver, and the messages that they sent. It has no matrix,
-- no mark, no frame and no pruned log. What a plain replica is, is a state of the rules of sending and receiving.
use Rattle.std.specs.Prelude.{ℕ, Bool, true, false, List, [], ◌∷◌, ◌++◌, fold, length, map, slice_set, Option, Some, None}
use Rattle.std.specs.List.{slice_index_or, find}
use Rattle.op_base.specs.declared.message.Message.{Message}
use Rattle.op_base.specs.declared.operation.Update.{Update}
use Rattle.causal_model.specs.Counts.{members}
use Rattle.causal_model.specs.Early.{has_id}
use Rattle.causal_model.specs.History.{epoch_of}
use Rattle.causal_model.specs.Receiving.{receive_rule}
use Rattle.causal_model.specs.Sending.{local_messages, beat_messages, local_rule, beat_rule}
use Rattle.causal_model.specs.State.{State, start, with_own}
use Rattle.causal_model.specs.declared.outcome.Beat.{Beat}
use Rattle.causal_model.specs.declared.outcome.Local.{Local}
use Rattle.causal_model.specs.declared.outcome.Receive.{Receive}
use Rattle.causal_model.specs.declared.outcome.Receive.TheVariants as receive
use Rattle.world_model.specs.declared.outcome.Given.{Given}
use Rattle.world_model.specs.declared.outcome.Given.TheVariants as given

-- a plain world: the window and the limit of its store, a state for each member, and for each the messages that it sent,
-- oldest first
pub record PlainWorld : Type 0 where
  pub w : ℕ
  pub limit : ℕ
  pub replicas : List State
  pub sent : List (List Message)

-- how many members a world has
abbrev pub size_of : PlainWorld → ℕ
size_of world = length world.replicas

-- the world of n members before anything was sent or received
abbrev pub opening : ℕ → ℕ → ℕ → PlainWorld
opening n w limit = record { w = w; limit = limit; replicas = map (λ me. start n me) (members n); sent = map (λ me. []) (members n) }

-- the replica of a member, and what it sent
abbrev pub replica_of : PlainWorld → ℕ → State
replica_of world r = slice_index_or world.replicas r (start 0 0)

abbrev pub sent_by : PlainWorld → ℕ → List Message
sent_by world r = slice_index_or world.sent r []

-- the epoch that a world is in: all its replicas are in one
abbrev pub epoch_in : PlainWorld → ℕ
epoch_in world = epoch_of (replica_of world 0).history

-- the world once a replica has come to a state
abbrev pub with_state : PlainWorld → ℕ → State → PlainWorld
with_state world r s = record { w = world.w; limit = world.limit; replicas = slice_set world.replicas r s; sent = world.sent }

-- the world once a replica sent a message
abbrev pub with_sent : PlainWorld → ℕ → Message → PlainWorld
with_sent world r m =
    record { w = world.w; limit = world.limit; replicas = slice_set world.replicas r (with_own (replica_of world r) m); sent = slice_set world.sent r (sent_by world r ++ m ∷ []) }

-- the world once a replica sent messages
abbrev pub with_all_sent : ℕ → PlainWorld → List Message → PlainWorld
with_all_sent r world messages = fold (λ world m. with_sent world r m) world messages

-- ---- the rules of a world: what comes of a command, and the world after it

-- sending an update at a replica
abbrev pub local_at : ℕ → Update → PlainWorld → Local × PlainWorld
local_at r update world =
    let answer = (local_rule world.w world.limit update (replica_of world r)).0 in
    (answer, with_all_sent r world (local_messages answer))

-- sending a no-op at a replica
abbrev pub beat_at : ℕ → PlainWorld → Beat × PlainWorld
beat_at r world =
    let answer = (beat_rule world.w world.limit (replica_of world r)).0 in
    (answer, with_all_sent r world (beat_messages answer))

-- offering a message to a replica
abbrev pub offer_at : ℕ → Message → PlainWorld → Receive × PlainWorld
offer_at r m world = let got = receive_rule world.w m (replica_of world r) in (got.0, with_state world r got.1)

-- the message of a member and a number that was sent
abbrev pub sent_message : PlainWorld → ℕ → ℕ → Option Message
sent_message world k seq = find (has_id (record { origin = k; seq = seq })) (sent_by world k)

-- giving a message to a replica, where one was sent
abbrev pub give_of : ℕ → PlainWorld → Option Message → Given × PlainWorld
give_of r world None = (given.Unsent, world)
give_of r world (Some m) = let made = offer_at r m world in (given.Got made.0, made.1)

-- whether the frame of a message is read to give it: not where its id tells that it isn't accepted, nor where none was sent
abbrev pub wants_frame : Receive → Bool
wants_frame receive.Old = false
wants_frame receive.Again = false
wants_frame answer = true

abbrev pub takes_frame : Given → Bool
takes_frame given.Unsent = false
takes_frame (given.Got answer) = wants_frame answer

-- giving the message of member k with a number to replica r
abbrev pub give_at : ℕ → ℕ → ℕ → PlainWorld → Given × PlainWorld
give_at r k seq world = give_of r world (sent_message world k seq)
