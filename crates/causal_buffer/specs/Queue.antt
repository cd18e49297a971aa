-- The early messages of one member, as a buffer keeps them: a place for each number.
use Rattle.std.specs.Prelude.{◌≡◌, ◌≢◌, ℕ, ◌+◌, ◌^◌, ◌<◌, ◌≤◌, Bool, true, false, not, ◌&&◌, ◌==◌, nat_lt, List, [], length, slice_index_or, All, IsTrue, Option, Some, None}
use Rattle.std.specs.List.{find, flat_map}
use Rattle.std.specs.Option.{option_map, option_to_list}
use Rattle.op_base.specs.Timestamp.{entry}
use Rattle.op_base.specs.Message.{number, id_of, fits}
use Rattle.op_base.specs.declared.tag.MessageId.{MessageId}
use Rattle.op_base.specs.declared.message.Message.{Message}
use Rattle.op_base.specs.declared.tag.TheConstants.{MOST_MEMBERS}
use Rattle.causal_model.specs.declared.room.TheConstants.{MOST_WINDOW}
use Rattle.causal_model.specs.Counts.{is_deliverable}
use Rattle.causal_model.specs.Stability.{noop_window}
use Rattle.causal_buffer.specs.Buffer.{IsNextId}
use Rattle.causal_buffer.specs.declared.queue.Queue.{Queue}
use Rattle.causal_buffer.specs.declared.queue.Wait.{Wait}
use Rattle.causal_buffer.specs.declared.watch.Watch.{Watch}
use Rattle.causal_buffer.specs.Watch.{IsWatch}

-- the messages that stand at places, in their order
abbrev pub standing : List (Option Message) → List Message
standing places = flat_map option_to_list places

-- what stands at each place, from that of the number `first` on, is the member's message of the place's number
pub record ArePlaces (member first : ℕ) (places : List (Option Message)) : Type 0 where
  pub own : (place : ℕ) (m : Message) → slice_index_or places place None ≡ Some m → m.origin ≡ member
  pub numbered : (place : ℕ) (m : Message) → slice_index_or places place None ≡ Some m → number m ≡ first + place

-- the early messages of a queue, by number
abbrev pub messages : Queue → List Message
messages queue = standing queue.places.items

-- ---- what a message waits for

-- of another member than its origin a message has seen more than was delivered
abbrev pub is_missing : List ℕ → Message → ℕ → Bool
is_missing counted m member = not (member == m.origin) && nat_lt (entry counted member) (entry m.tag member)

-- what a message has seen of members below one was delivered
abbrev pub AreSeen : ℕ → List ℕ → Message → Type 0
AreSeen end counted m = (member : ℕ) → member < end → is_missing counted m member ≡ false

-- a member is the first of whom a message has seen more than was delivered
pub record IsFirstMissing (counted : List ℕ) (m : Message) (member : ℕ) : Type 0 where
  pub of_member : member < length counted
  pub missing : is_missing counted m member ≡ true
  pub first : AreSeen member counted m

-- a message of a wait's number, sent by a member, has seen at least so many of the wait's member, who is another
abbrev pub WaitsFor : ℕ → Wait → Message → Type 0
WaitsFor member wait m = number m ≡ wait.seq → (wait.member ≢ member) × (wait.count ≤ entry m.tag wait.member)

-- what is kept of a member's wait is true of each of its early messages
abbrev pub AreWaiting : ℕ → Wait → List Message → Type 0
AreWaiting member wait early = All (WaitsFor member wait) early

-- it is told of the messages of a number what they wait for, and more than was delivered
abbrev pub AreTold : ℕ → List ℕ → Wait → List Message → Type 0
AreTold seq counted wait early = All (λ m. number m ≡ seq → (wait.seq ≡ seq) × (entry counted wait.member < wait.count)) early

-- ---- queues

-- a queue is a member's, there is room for its places, its messages are counted, their numbers fit a number's type, and what one
-- is said to wait for it has seen
pub record IsQueue (member : ℕ) (queue : Queue) : Type 0 where
  pub are_places : ArePlaces member queue.first queue.places.items
  pub within : length queue.places.items ≤ queue.places.room
  pub counted : queue.filled ≡ length (messages queue)
  pub small : All (λ m. number m < 2 ^ 32) (messages queue)
  pub waiting : AreWaiting member queue.wait (messages queue)

-- the numbers of messages are above a count, by no more than so many
abbrev pub AreWithin : ℕ → ℕ → List Message → Type 0
AreWithin count room early = All (λ m. (count < number m) × (number m ≤ count + room)) early

-- a queue is a member's in a store of n members with a window w, has just the room for all that can be early at once, and waits
-- for a member
pub record IsKept (n w member : ℕ) (queue : Queue) : Type 0 where
  pub is_queue : IsQueue member queue
  pub fit : All (λ m. IsTrue (fits n m)) (messages queue)
  pub room : queue.places.room ≡ w + noop_window n w
  pub wait : queue.wait.member < n

-- queues are those of the members, from the first on
abbrev pub AreKept : ℕ → ℕ → List Queue → Type 0
AreKept n w queues = (member : ℕ) (d : Queue) → member < length queues → IsKept n w member (slice_index_or queues member d)

-- the queues of a store, which have so many messages, of which this is known
pub record AreQueues (n w held : ℕ) (queues : List Queue) (watch : Watch) : Type 0 where
  pub some : 1 ≤ n
  pub few : n ≤ MOST_MEMBERS
  pub narrow : w ≤ MOST_WINDOW
  pub count : length queues ≡ n
  pub kept : AreKept n w queues
  pub counted : held ≡ length (flat_map messages queues)
  pub watched : IsWatch n watch (flat_map messages queues)

-- a message is a member's, and can be delivered where so many of each of n members were
abbrev pub is_ready : ℕ → List ℕ → ℕ → Message → Bool
is_ready n counted member m = (m.origin == member) && is_deliverable n counted m

-- whether there is a message, and it can be delivered
abbrev pub can_be_taken : ℕ → List ℕ → Option Message → Bool
can_be_taken n counted None = false
can_be_taken n counted (Some m) = is_deliverable n counted m

-- no message of members below one can be delivered
abbrev pub AreUnready : ℕ → ℕ → List ℕ → List Message → Type 0
AreUnready end n counted early = (member : ℕ) → member < end → find (is_ready n counted member) early ≡ None

-- an id is that of the message, of the lowest member below one, that can be delivered
pub record IsLowest (end n : ℕ) (counted : List ℕ) (early : List Message) (id : MessageId) : Type 0 where
  pub below : id.origin < end
  pub next : IsNextId n counted id
  pub ready : Some id ≡ option_map id_of (find (is_ready n counted id.origin) early)
  pub lowest : AreUnready id.origin n counted early

-- a queue of any member that lost all messages, with the room that it had
pub record IsEmptied (old new : Queue) : Type 0 where
  pub kept : (member : ℕ) → IsQueue member new
  pub none : messages new ≡ []
  pub room : new.places.room ≡ old.places.room
  pub wait : new.wait.member ≡ 0
