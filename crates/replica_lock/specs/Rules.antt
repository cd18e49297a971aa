-- What the calls of a shared node answer and note, at the turns before them.
use Rattle.std.specs.Prelude.{◌≡◌, ℕ, Bool, IsTrue, List, [], ◌++◌, length, take, All, Result, Ok, Err}
use Rattle.op_base.specs.Message.{fits}
use Rattle.op_base.specs.declared.memory.NoMemory.{NoMemory}
use Rattle.op_base.specs.declared.message.Message.{Message}
use Rattle.op_base.specs.declared.name.ObjectId.{ObjectId}
use Rattle.op_base.specs.declared.operation.Update.{Update}
use Rattle.op_base.specs.declared.outcome.Answer.{Answer}
use Rattle.causal_model.specs.Counts.{is_carried}
use Rattle.causal_model.specs.History.{events}
use Rattle.causal_model.specs.Follows.{Follows}
use Rattle.causal_model.specs.Journal.{IsLegal, local_notes, beat_notes, receive_notes}
use Rattle.causal_model.specs.Query.{answer}
use Rattle.causal_model.specs.State.{State}
use Rattle.causal_model.specs.Receiving.{receive_rule, is_accepted}
use Rattle.causal_model.specs.Sending.{outbox_of, local_rule, is_sent, beat_rule, is_beat}
use Rattle.causal_model.specs.declared.note.Note.{Note}
use Rattle.causal_model.specs.declared.outcome.Beat.{Beat}
use Rattle.causal_model.specs.declared.outcome.Beat.TheVariants as beat
use Rattle.causal_model.specs.declared.outcome.Local.{Local}
use Rattle.causal_model.specs.declared.outcome.Local.TheVariants as local
use Rattle.causal_model.specs.declared.outcome.Receive.{Receive}
use Rattle.causal_model.specs.declared.outcome.Receive.TheVariants as receive
use Rattle.replica_node.specs.Nodes.{state_by}
use Rattle.replica_node.specs.Rules.{noting}
use Rattle.turn_lock.specs.Turns.{StartsWith, turns_of}
use Rattle.replica_lock.specs.Held.{Held}
use Rattle.replica_lock.specs.Turns.{NotedTurn, notes_in, turn_with}
use Rattle.replica_lock.specs.declared.pass.Settings.{Settings}

-- the state that turns give
abbrev pub state_in : Settings → List NotedTurn → State
state_in key turns = state_by (key.me, key.n) (notes_in turns)

-- what was seen of turns is legal
abbrev pub AreLegal : Settings → List NotedTurn → Type 0
AreLegal key turns = ∥ IsLegal key.n key.w key.limit key.me (notes_in turns) ∥₁

-- A call of a pass, at these turns before it, which noted this: the turns begin with what the pass had seen, and have its own
-- turns each once; the call's turn is put behind them where it noted something. The place is how many notes there then are.
pub record IsCall (old new : Held) (place : ℕ) (before : List NotedTurn) (what : List Note) : Type 0 where
  pub begins : StartsWith before old.seen
  pub own_before : turns_of old.number before ≡ old.own
  pub becomes : new ≡ record { lock = old.lock; number = old.number; seen = before ++ turn_with old.number what; own = old.own ++ turn_with old.number what }
  pub own : turns_of new.number new.seen ≡ new.own
  pub place_is : place ≡ length (notes_in before ++ what)
  pub notes_are : notes_in new.seen ≡ notes_in before ++ what
  pub legal_before : AreLegal old.lock.key before
  pub legal : AreLegal old.lock.key new.seen

-- a call by what it noted at the turns before it
abbrev pub Calls : (old new : Held) → ℕ → (Settings → (before after : List Note) → Type 0) → Type 0
Calls old new place Notes =
    (before : List NotedTurn) × (what : List Note) × IsCall old new place before what × Notes old.lock.key (notes_in before) (notes_in before ++ what)

-- the notes before a call and those after it follow the rule of sending an update, of a no-op, or of receiving a message
abbrev pub FollowsNotes : {A : Type 0} → A → (A → Bool) → (List Note → A × List Note) → (before after : List Note) → A → Type 0
FollowsNotes no_memory takes_memory rule before after answer = Follows (λ (there ns : List Note). there ≡ ns) no_memory takes_memory rule before answer after

abbrev pub FollowsLocal : ℕ → ℕ → ℕ × ℕ → (before after : List Note) → Update → Local → Type 0
FollowsLocal w limit first before after update answer = FollowsNotes local.NoMemory is_sent (noting first local_notes (local_rule w limit update)) before after answer

abbrev pub FollowsBeat : ℕ → ℕ → ℕ × ℕ → (before after : List Note) → Beat → Type 0
FollowsBeat w limit first before after answer = FollowsNotes beat.NoMemory is_beat (noting first beat_notes (beat_rule w limit)) before after answer

abbrev pub FollowsReceive : ℕ → ℕ → ℕ × ℕ → (before after : List Note) → Message → Receive → Type 0
FollowsReceive w limit first before after m answer = FollowsNotes receive.NoMemory is_accepted (noting first (receive_notes m) (receive_rule w m)) before after answer

-- sending an update, a no-op, receiving a message
abbrev pub CallsLocal : (old new : Held) → ℕ → Update → Local → Type 0
CallsLocal old new place update answer = Calls old new place (λ key before after. FollowsLocal key.w key.limit (key.me, key.n) before after update answer)

abbrev pub CallsBeat : (old new : Held) → ℕ → Beat → Type 0
CallsBeat old new place answer = Calls old new place (λ key before after. FollowsBeat key.w key.limit (key.me, key.n) before after answer)

abbrev pub CallsReceive : (old new : Held) → ℕ → Message → Receive → Type 0
CallsReceive old new place m answer = Calls old new place (λ key before after. FollowsReceive key.w key.limit (key.me, key.n) before after m answer)

-- an answer of an object, where there is one
abbrev pub IsAnswer : State → ObjectId → Result Answer NoMemory → Type 0
IsAnswer s object (Ok a) = a ≡ answer object (events s.history)
IsAnswer s object (Err none) = Unit {0}

-- the own unstable messages of a state, oldest first
abbrev pub outbox_in : State → List Message
outbox_in s = outbox_of s.history.present.n s.history.present.me s.history.present.messages

-- the oldest messages of an outbox, which are of the store, where there are such
pub record AreOldest (key : Settings) (s : State) (most : ℕ) (messages : List Message) : Type 0 where
  pub are : messages ≡ take most (outbox_in s)
  pub fit : All (λ m. IsTrue (fits key.n m)) messages
  pub carried : All (λ m. IsTrue (is_carried key.limit m)) messages

abbrev pub IsOutbox : Settings → State → ℕ → Result (List Message) NoMemory → Type 0
IsOutbox key s most (Ok messages) = AreOldest key s most messages
IsOutbox key s most (Err none) = Unit {0}

-- asking for an object, and for the outbox: nothing is noted
abbrev pub CallsAsk : (old new : Held) → ℕ → ObjectId → Result Answer NoMemory → Type 0
CallsAsk old new place object result =
    (before : List NotedTurn) × IsCall old new place before [] × IsAnswer (state_in old.lock.key before) object result

abbrev pub CallsOutbox : (old new : Held) → ℕ → ℕ → Result (List Message) NoMemory → Type 0
CallsOutbox old new place most result =
    (before : List NotedTurn) × IsCall old new place before [] × IsOutbox old.lock.key (state_in old.lock.key before) most result
