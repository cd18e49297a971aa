-- What one message more makes of parts of a replica, and what the steps of receiving make of all its fields.
use Rattle.std.specs.Prelude.{◌≡◌, ◌≢◌, ◌+◌, ◌≤◌, length, ℕ, Bool, not, ◌&&◌, ◌||◌, ◌==◌, IsTrue, option_copied, unwrap_or, List, [], ◌∷◌, ◌++◌, Some, if◌then◌else◌}
use Rattle.op_base.specs.CopyRooms.{IsCopyRoomFor}
use Rattle.op_base.specs.Message.{id_of}
use Rattle.op_base.specs.declared.message.Message.{Message}
use Rattle.op_base.specs.declared.outcome.Step.{Step}
use Rattle.op_base.specs.declared.tag.MessageId.{MessageId}
use Rattle.causal_model.specs.Chapter.{is_chapter}
use Rattle.causal_model.specs.Early.{without}
use Rattle.causal_model.specs.Receiving.{next_of, crook_after, step_of, state_with, steps}
use Rattle.causal_model.specs.State.{State}
use Rattle.causal_model.specs.Stability.{carries_operation}
use Rattle.causal_model.specs.States.{IsState}
use Rattle.outbox.specs.Sent.{Sent, unstable_in}
use Rattle.stability_matrix.specs.Rows.{Known, stable_of, noted}
use Rattle.stability_matrix.specs.Standing.{IsMatrixOf}
use Rattle.replica_core.specs.Rules.{StandsFor}
use Rattle.replica_core.specs.declared.replica.Replica.{Replica}
use Rattle.replica_core.specs.declared.step.Sender.{Sender}
use Rattle.replica_core.specs.declared.step.Sender.TheVariants as sender

-- who sent a message that comes to a member with this matrix: of an own one there is room for a copy, of another member's the
-- least of each column once it is noted, where that moves
abbrev pub IsSender : ℕ → Known → Message → Sender → Type 0
IsSender me matrix m (sender.Own room) = (m.origin ≡ me) × IsCopyRoomFor room m.op
IsSender me matrix m (sender.Other moved) = (m.origin ≢ me) × (unwrap_or (option_copied moved) (stable_of matrix.rows) ≡ stable_of (noted matrix.me m.origin m.tag matrix.rows))

-- where the matrix was that of messages of which this is the next, it is that of those with it
abbrev pub KeepsMatrix : Message → Known → Known → Type 0
KeepsMatrix m old new = (n w me : ℕ) (messages : List Message) → IsTrue (is_chapter n w me (messages ++ m ∷ [])) → IsMatrixOf n me messages old → IsMatrixOf n me (messages ++ m ∷ []) new

-- messages of member me with one more where it is an own one
abbrev pub with_own_sent : ℕ → Message → List Message → List Message
with_own_sent me m messages = if m.origin == me then messages ++ m ∷ [] else messages

-- an outbox of member me with one message more where it is an own one
abbrev pub with_own_in : ℕ → Message → Sent → Sent
with_own_in me m sent = record { n = sent.n; w = sent.w; messages = with_own_sent me m sent.messages }

-- an outbox without what is stable where these are the stable counts
abbrev pub left_unstable : List ℕ → Sent → Sent
left_unstable stable sent = record { n = sent.n; w = sent.w; messages = unstable_in stable sent.messages }

-- whether a no-op is due at a member after a message
abbrev pub is_due_after : ℕ → Bool → Message → Bool
is_due_after me due m = not (m.origin == me) && (due || carries_operation m.op)

-- all steps of a state were made, and the fields stand for the state after them
pub record HasStepped (w : ℕ) (s : State) (made : List Step) (new : Replica) : Type 0 where
  pub are : made ≡ (steps w s).0
  pub stands : StandsFor new (steps w s).1

-- a state without the early messages of an id
abbrev pub state_without : MessageId → State → State
state_without id s = record { history = s.history; early = without id s.early }

-- a message is the next of a state that a replica can be in, and the fields stand for the state without it
pub record IsNextOf (r : Replica) (m : Message) (s : State) : Type 0 where
  pub is_state : IsState r.w r.limit s
  pub next : next_of s ≡ Some m
  pub left : StandsFor r (state_without (id_of m) s)

-- it is the next step of a state, and the fields stand for the state after it
pub record IsStepOf (w : ℕ) (s : State) (step : Step) (new : Replica) : Type 0 where
  pub message : Message
  pub next : next_of s ≡ Some message
  pub is : step ≡ step_of message (crook_after w s.history message)
  pub stands : StandsFor new (state_with w s message)

-- steps of a state, and the state after them, behind other steps
abbrev pub behind : List Step → List Step × State → List Step × State
behind before made = (before ++ made.0, made.1)

-- of the steps of a state the first are made: behind those that there were before, what is made and the steps of the state after
-- it are all of them. The fields stand for that state now
pub record HasMade (w : ℕ) (s : State) (before made : List Step) (now : Replica) : Type 0 where
  pub after : State
  pub stands : StandsFor now after
  pub is : behind before (steps w s) ≡ behind made (steps w after)

-- all steps of a state were made and put behind those that there were, and the fields stand for the state after them
pub record HasAdded (w : ℕ) (s : State) (before made : List Step) (new : Replica) : Type 0 where
  pub are : made ≡ before ++ (steps w s).0
  pub stands : StandsFor new (steps w s).1

-- there is room for each step of some state that the fields stand for, behind those that were made
abbrev pub HasRoomToStep : Replica → List Step → ℕ → Type 0
HasRoomToStep r made capacity = ∥ ((s : State) × StandsFor r s × (length made + length (steps r.w s).0 ≤ capacity)) ∥₁
