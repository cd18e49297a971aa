-- The order of events in a world: the classical happened-before, by the places of events in histories. It reads no timestamp.
use Rattle.std.specs.Prelude.{◌≡◌, ℕ, ◌<◌, List, slice_get, Contains, Some}
use Rattle.causal_model.specs.History.{Event, events}
use Rattle.causal_model.specs.Laws.Events.{present_event}
use Rattle.world_model.specs.Honest.{IsSentMessage, history_of}
use Rattle.world_model.specs.World.{PlainWorld, size_of}

-- a stands before b in a list
abbrev pub StandsBefore : List Event → Event → Event → Type 0
StandsBefore es a b = (i : ℕ) × (j : ℕ) × (i < j) × (slice_get es i ≡ Some a) × (slice_get es j ≡ Some b)

-- an event is a message that was sent in the present epoch
abbrev pub IsSentEvent : PlainWorld → Event → Type 0
IsSentEvent world e = IsSentMessage world e.message × (e ≡ present_event (history_of world e.message.origin) e.message)

-- an event is one of some replica's history
abbrev pub IsEvent : PlainWorld → Event → Type 0
IsEvent world e = (r : ℕ) × (r < size_of world) × Contains (events (history_of world r)) e

-- the least transitive relation that holds from a to b wherever b was sent and a stands before it in the history of its origin
pub data EventOrder (world : PlainWorld) : Event → Event → Type 0 where
  stands : (a b : Event) → IsSentEvent world b → StandsBefore (events (history_of world b.message.origin)) a b → EventOrder world a b
  through : (a b c : Event) → EventOrder world a b → EventOrder world b c → EventOrder world a c
