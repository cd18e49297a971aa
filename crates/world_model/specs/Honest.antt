-- Honest worlds: plain worlds that are as they are where no frame was forged. It is asked of a world as it stands, and not
-- of how it came to be.
use Rattle.std.specs.Prelude.{◌↔◌, ℕ, ◌<◌, List, All, Contains}
use Rattle.op_base.specs.declared.message.Message.{Message}
use Rattle.causal_model.specs.History.{History, Event, events_from}
use Rattle.causal_model.specs.Sending.{KeepsRule}
use Rattle.world_model.specs.World.{PlainWorld, size_of, replica_of, sent_by}
use Rattle.world_model.specs.Worlds.{IsWorld, KeepsWorld}

-- a message was sent: it stands whole among what its origin sent
abbrev pub IsSentMessage : PlainWorld → Message → Type 0
IsSentMessage world m = Contains (sent_by world m.origin) m

-- the history of a member, what it delivered in the present epoch, and the events of the epochs that are over
abbrev pub history_of : PlainWorld → ℕ → History
history_of world r = (replica_of world r).history

abbrev pub delivered_by : PlainWorld → ℕ → List Message
delivered_by world r = (history_of world r).present.messages

abbrev pub past_events : History → List Event
past_events h = events_from 0 h.past

-- An honest world. That what each member sent are exactly its own messages, and that no early message can be delivered,
-- are facts of every world (`sent` of `IsWorld`, `none_is_next` of `IsReplica`).
pub record IsHonest (world : PlainWorld) : Type 0 where
  pub is_world : IsWorld world
  -- each own message is what the rule of sending gives at the messages before it
  pub by_rule : (r : ℕ) → r < size_of world → KeepsRule (size_of world) world.w world.limit r (delivered_by world r)
  -- each message that was delivered or is early was sent
  pub delivered : (r : ℕ) → r < size_of world → All (IsSentMessage world) (delivered_by world r)
  pub early : (r : ℕ) → r < size_of world → All (IsSentMessage world) (replica_of world r).early
  -- all replicas have the same events of the epochs that are over
  pub one_past : (r q : ℕ) → r < size_of world → q < size_of world → (e : Event)
      → (Contains (past_events (history_of world r)) e ↔ Contains (past_events (history_of world q)) e)

-- the world after a command is an honest world of the same members, in the same epoch
abbrev pub KeepsHonest : PlainWorld → PlainWorld → Type 0
KeepsHonest world after = IsHonest after × KeepsWorld world after
