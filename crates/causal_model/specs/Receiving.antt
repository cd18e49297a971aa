-- The rule by which a replica receives. That a message waits until it can be delivered is causal delivery, as in Baquero,
-- Almeida and Shoker (arXiv 1710.04469); the tests and their order are this project's own profile.
use Rattle.std.specs.Prelude.{ℕ, zero, suc, ◌+◌, Bool, true, false, ◌||◌, ◌==◌, nat_le, nat_lt, List, [], ◌∷◌, ◌++◌, length, Option, Some, None, if◌then◌else◌}
use Rattle.std.specs.List.{find}
use Rattle.op_base.specs.Timestamp.{entry}
use Rattle.op_base.specs.Message.{number, id_of}
use Rattle.op_base.specs.declared.message.Message.{Message}
use Rattle.op_base.specs.declared.outcome.Crook.{Crook}
use Rattle.op_base.specs.declared.outcome.Step.{Step}
use Rattle.op_base.specs.declared.outcome.Step.TheVariants as step
use Rattle.causal_model.specs.Counts.{is_deliverable}
use Rattle.causal_model.specs.Crook.{crook_of}
use Rattle.causal_model.specs.History.{History, with_messages}
use Rattle.causal_model.specs.Early.{put_early, is_again, without}
use Rattle.causal_model.specs.Stability.{noop_window}
use Rattle.causal_model.specs.State.{State, counted}
use Rattle.causal_model.specs.declared.outcome.Receive.{Receive}
use Rattle.causal_model.specs.declared.outcome.Receive.TheVariants as receive
use Rattle.causal_model.specs.declared.outcome.Refusal.{Refusal}
use Rattle.causal_model.specs.declared.outcome.Refusal.TheVariants as refusal

-- whether a message came before, where so many of each member were delivered: it is an own one of member me, or its
-- origin's count has reached its number
abbrev pub is_old : ℕ → List ℕ → Message → Bool
is_old me counted m = (m.origin == me) || nat_le (number m) (entry counted m.origin)

-- whether a message is too far ahead to be kept: by its number, or by own messages that it has seen and that aren't sent
abbrev pub is_far : ℕ → ℕ → ℕ → List ℕ → Message → Bool
is_far n w me counted m =
    nat_lt (entry counted m.origin + (w + noop_window n w)) (number m) || nat_lt (entry counted me) (entry m.tag me)

-- The early message that is taken next: the first that can be delivered. A member has at most one such, so it is that of
-- the lowest member.
abbrev pub next_early : ℕ → List ℕ → List Message → Option Message
next_early n counted early = find (is_deliverable n counted) early

-- why an early message is crooked, where it is
abbrev pub crook_after : ℕ → History → Message → Option Crook
crook_after w h m = crook_of h.present.n w h.present.me h.present.messages m

-- what becomes of an early message: it is delivered, or dropped where it is crooked
abbrev pub step_of : Message → Option Crook → Step
step_of m None = step.Took (id_of m)
step_of m (Some crook) = step.Crook (id_of m) crook

-- messages after an early one was taken: with it, or as they were where it is crooked
abbrev pub messages_with : List Message → Message → Option Crook → List Message
messages_with messages m None = messages ++ m ∷ []
messages_with messages m (Some crook) = messages

-- the state after an early message was taken
abbrev pub state_with : ℕ → State → Message → State
state_with w s m =
    record { history = with_messages s.history (messages_with s.history.present.messages m (crook_after w s.history m)); early = without (id_of m) s.early }

-- at most so many steps that are made from a state, and the state after them
abbrev pub steps_within : ℕ → ℕ → State → List Step × State
steps_within w zero s = ([], s)
steps_within w (suc most) s =
    elim (next_early s.history.present.n (counted s.history) s.early) [
      | None ↦ ([], s)
      | Some m ↦ let later = steps_within w most (state_with w s m) in (step_of m (crook_after w s.history m) ∷ later.0, later.1)
    ]

-- The steps that are made from a state, and the state then: each takes one early message, until none can be delivered.
-- There are at most as many as early messages, since each step leaves one fewer.
abbrev pub steps : ℕ → State → List Step × State
steps w s = steps_within w (length s.early) s

-- the early message that is taken next in a state
abbrev pub next_of : State → Option Message
next_of s = next_early s.history.present.n (counted s.history) s.early

-- the state with a message more among the early ones
abbrev pub with_early : State → Message → State
with_early s m = record { history = s.history; early = put_early m s.early }

-- why a message isn't accepted, as far as its id tells, and in all, in a store with a window w: the tests in their order
abbrev pub refusal_by_id : State → Message → Option Refusal
refusal_by_id s m =
    if is_old s.history.present.me (counted s.history) m then Some refusal.Old
    else if is_again s.early m then Some refusal.Again
    else None

abbrev pub refusal_of : ℕ → State → Message → Option Refusal
refusal_of w s m =
    if is_old s.history.present.me (counted s.history) m then Some refusal.Old
    else if is_again s.early m then Some refusal.Again
    else if is_far s.history.present.n w s.history.present.me (counted s.history) m then Some refusal.Far
    else None

-- the answers: that it isn't accepted, or the steps that were made
abbrev pub refused : Refusal → Receive
refused refusal.Old = receive.Old
refused refusal.Again = receive.Again
refused refusal.Far = receive.Far

abbrev pub accepted : List Step → Receive
accepted [] = receive.Kept
accepted (step ∷ steps) = receive.Took (step ∷ steps)

-- the steps that were made, and whether a message was accepted: memory is taken for that alone
abbrev pub steps_of : Receive → List Step
steps_of (receive.Took steps) = steps
steps_of answer = []

abbrev pub is_accepted : Receive → Bool
is_accepted receive.Kept = true
is_accepted (receive.Took steps) = true
is_accepted answer = false

-- The rule of receiving, in a store with a window w: what comes of a message at a state, and the state after it. One that
-- is accepted is early, and then steps are made until no early message can be delivered.
abbrev pub receive_by : ℕ → Message → State → Option Refusal → Receive × State
receive_by w m s (Some refusal) = (refused refusal, s)
receive_by w m s None = let made = steps w (with_early s m) in (accepted made.0, made.1)

abbrev pub receive_rule : ℕ → Message → State → Receive × State
receive_rule w m s = receive_by w m s (refusal_of w s m)
