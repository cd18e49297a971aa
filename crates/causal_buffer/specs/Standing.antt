-- When a buffer is that of a state that a replica can be in, what its calls make of it then, and what is asked of them.
use Rattle.std.specs.Prelude.{◌≡◌, ℕ, ◌<◌, ◌≤◌, IsTrue, List, length, Option, Some, None, if◌then◌else◌}
use Rattle.std.specs.Option.{option_map}
use Rattle.op_base.specs.Message.{id_of}
use Rattle.op_base.specs.Valid.{is_valid}
use Rattle.op_base.specs.declared.message.Message.{Message}
use Rattle.op_base.specs.declared.operation.Op.{Op}
use Rattle.op_base.specs.declared.tag.MessageId.{MessageId}
use Rattle.causal_model.specs.Counts.{count_of, is_carried}
use Rattle.causal_model.specs.Sending.{own_message, HasRoom}
use Rattle.causal_model.specs.Receiving.{is_far, with_early, state_with, next_of, steps}
use Rattle.causal_model.specs.State.{State, counted, with_own}
use Rattle.causal_model.specs.Early.{is_again}
use Rattle.causal_model.specs.States.{IsState}
use Rattle.causal_buffer.specs.Buffer.{Buffer, AreAhead, AreNear}
use Rattle.causal_buffer.specs.declared.buffer.Offer.{Offer}
use Rattle.causal_buffer.specs.declared.buffer.Offer.TheVariants.{Kept, Again, Far}

-- a buffer is that of a state in a store with a window w: it has the state's early messages
pub record IsBufferOf (w : ℕ) (s : State) (b : Buffer) : Type 0 where
  pub members : b.n ≡ s.history.present.n
  pub window : b.w ≡ w
  pub early : b.early ≡ s.early

-- a state's member, and how many messages of each member were delivered in it
pub record IsMemberOf (me : ℕ) (counts : List ℕ) (s : State) : Type 0 where
  pub member : me ≡ s.history.present.me
  pub delivered : counts ≡ counted s.history

-- ---- an offer

-- what a message that isn't old is answered in a state
abbrev pub answer_in : ℕ → State → Message → Offer
answer_in w s m =
    if is_again s.early m then Again m
    else if is_far s.history.present.n w s.history.present.me (counted s.history) m then Far m
    else Kept

-- the state after an answer: with the message among the early ones where it was kept, else as it was
abbrev pub state_offered : State → Message → Offer → State
state_offered s m Kept = with_early s m
state_offered s m (Again same) = s
state_offered s m (Far same) = s

-- an offer to a state's buffer is answered as in the state
abbrev pub AnswersInState : ℕ → List ℕ → Message → Buffer → Offer → Type 0
AnswersInState me counts m b answer = (w : ℕ) (s : State) → IsBufferOf w s b → IsMemberOf me counts s → answer ≡ answer_in w s m

-- a state's buffer is then that of the state after the answer
abbrev pub KeepsOffered : Message → Offer → Buffer → Buffer → Type 0
KeepsOffered m answer old new = (w : ℕ) (s : State) → IsBufferOf w s old → IsBufferOf w (state_offered s m answer) new

-- that is a state that a replica can be in, where it was one and the message can be carried
abbrev pub OfferKeepsState : ℕ → List ℕ → Message → Offer → Buffer → Type 0
OfferKeepsState me counts m answer old = (w limit : ℕ) (s : State) → IsState w limit s → IsBufferOf w s old → IsMemberOf me counts s
    → IsTrue (is_carried limit m) → IsState w limit (state_offered s m answer)

-- ---- a message that is kept

-- a state's buffer is then that of the state with the message among the early ones
abbrev pub KeepsEarly : Message → Buffer → Buffer → Type 0
KeepsEarly m old new = (w : ℕ) (s : State) → IsBufferOf w s old → IsBufferOf w (with_early s m) new

-- that is a state that a replica can be in, where it was one and the message can be carried
abbrev pub KeepKeepsState : ℕ → List ℕ → Message → Buffer → Type 0
KeepKeepsState me counts m old = (w limit : ℕ) (s : State) → IsState w limit s → IsBufferOf w s old → IsMemberOf me counts s
    → IsTrue (is_carried limit m) → IsState w limit (with_early s m)

-- of a state with these early messages at most so many steps are made once a message is one of them
abbrev pub HasStepsWithin : List ℕ → Message → List Message → ℕ → Type 0
HasStepsWithin counts m early most = (w : ℕ) (s : State) → s.history.present.n ≡ length counts → counts ≡ counted s.history → s.early ≡ early
    → length (steps w (with_early s m)).0 ≤ most

-- ---- what is next, and its removal

-- what is next of a state's buffer is what is next in the state
abbrev pub IsNextInState : List ℕ → Buffer → Option MessageId → Type 0
IsNextInState counts b id = (w : ℕ) (s : State) → IsBufferOf w s b → counts ≡ counted s.history → id ≡ option_map id_of (next_of s)

-- by the id of a state's next message that one is taken
abbrev pub TakesNext : MessageId → Buffer → Option Message → Type 0
TakesNext id old taken = (w limit : ℕ) (s : State) (m : Message) → IsState w limit s → IsBufferOf w s old → next_of s ≡ Some m → id ≡ id_of m
    → taken ≡ Some m

-- what is taken of a state's buffer is what is next in the state
abbrev pub IsTakenInState : List ℕ → Buffer → Option Message → Type 0
IsTakenInState counts b taken = (w : ℕ) (s : State) → IsBufferOf w s b → counts ≡ counted s.history → taken ≡ next_of s

-- a state's buffer is then that of the state after the step, whether the message was delivered or crooked, and that is a
-- state that a replica can be in
abbrev pub KeepsStep : MessageId → Buffer → Buffer → Type 0
KeepsStep id old new = (w limit : ℕ) (s : State) (m : Message) → IsState w limit s → IsBufferOf w s old → next_of s ≡ Some m → id ≡ id_of m
    → IsState w limit (state_with w s m) × IsBufferOf w (state_with w s m) new

-- ---- an own message

-- an own message leaves a state's buffer as it is: it is that of the state after it, which a replica can be in, and in which
-- none is next where none was
abbrev pub OwnKeepsBuffer : Type 0
OwnKeepsBuffer = (w limit : ℕ) (s : State) (o : Op) (m : Message) (b : Buffer) → IsState w limit s → IsBufferOf w s b
    → m ≡ own_message s.history.present.n s.history.present.me s.history.present.messages o
    → HasRoom s.history.present.n w s.history.present.me s.history.present.messages o → IsTrue (is_valid o)
    → count_of s.history.present.messages s.history.present.me < limit
    → IsState w limit (with_own s m) × IsBufferOf w (with_own s m) b × (next_of s ≡ None → next_of (with_own s m) ≡ None)

-- ---- what is asked of calls holds of a state's buffer

-- the state's member is one of the buffer's store
abbrev pub MemberIsInStore : Type 0
MemberIsInStore = (w limit me : ℕ) (s : State) (b : Buffer) → IsState w limit s → IsBufferOf w s b → me ≡ s.history.present.me → me < b.n

-- there is a count for each member
abbrev pub CountsAreOfStore : Type 0
CountsAreOfStore = (w : ℕ) (counts : List ℕ) (s : State) (b : Buffer) → IsBufferOf w s b → counts ≡ counted s.history → length counts ≡ b.n

-- none of the early messages was delivered
abbrev pub EarlyAreAhead : Type 0
EarlyAreAhead = (w limit : ℕ) (counts : List ℕ) (s : State) (b : Buffer) → IsState w limit s → IsBufferOf w s b → counts ≡ counted s.history
    → AreAhead counts b.early

-- each early message is within the two windows
abbrev pub EarlyAreNear : Type 0
EarlyAreNear = (w limit : ℕ) (counts : List ℕ) (s : State) (b : Buffer) → IsState w limit s → IsBufferOf w s b → counts ≡ counted s.history
    → AreNear b.n b.w counts b.early

-- where there is an id of what is next, it is the next message's
abbrev pub NextIdIsOfMessage : Type 0
NextIdIsOfMessage = (s : State) (id : MessageId) → option_map id_of (next_of s) ≡ Some id → (m : Message) × (next_of s ≡ Some m) × (id ≡ id_of m)

-- the next message is a member's
abbrev pub NextIsOfMember : Type 0
NextIsOfMember = (w limit : ℕ) (s : State) (m : Message) (b : Buffer) → IsState w limit s → IsBufferOf w s b → next_of s ≡ Some m → m.origin < b.n
