-- Journals: the notes that a replica's calls leave, their replay, and which lists of notes calls can have left. They are
-- this project's own profile.
use Rattle.std.specs.Prelude.{◌≡◌, ℕ, ◌+◌, ◌<◌, ◌≤◌, IsTrue, List, [], ◌∷◌, ◌++◌, map, fold, Option, Some, None, if◌then◌else◌}
use Rattle.std.specs.List.{find, flat_map}
use Rattle.op_base.specs.declared.message.Message.{Message}
use Rattle.op_base.specs.declared.operation.Update.{Update}
use Rattle.op_base.specs.declared.outcome.Step.{Step}
use Rattle.op_base.specs.declared.outcome.Step.TheVariants as step
use Rattle.op_base.specs.Message.{fits}
use Rattle.op_base.specs.Valid.{is_valid_update}
use Rattle.causal_model.specs.Counts.{is_carried}
use Rattle.causal_model.specs.History.{epoch_of, with_messages, is_all_stable}
use Rattle.causal_model.specs.Sending.{local_messages, beat_messages, local_rule, beat_rule}
use Rattle.causal_model.specs.Early.{has_id, without}
use Rattle.causal_model.specs.Receiving.{with_early, steps, refusal_of, steps_of, is_accepted}
use Rattle.causal_model.specs.State.{State, start, with_own}
use Rattle.causal_model.specs.declared.outcome.Local.{Local}
use Rattle.causal_model.specs.declared.outcome.Local.TheVariants as local
use Rattle.causal_model.specs.declared.outcome.Beat.{Beat}
use Rattle.causal_model.specs.declared.outcome.Beat.TheVariants as beat
use Rattle.causal_model.specs.declared.outcome.Receive.{Receive}
use Rattle.causal_model.specs.declared.note.Note.{Note}
use Rattle.causal_model.specs.declared.note.Note.TheVariants.{Sent, Kept, Took, Crook, Regroup}

-- messages with an early message, where there is one
abbrev pub messages_and : List Message → Option Message → List Message
messages_and messages None = messages
messages_and messages (Some m) = messages ++ m ∷ []

-- the state of the next epoch, as member me of n members: the present chapter is over, and nothing has come yet
abbrev pub regrouped : ℕ → ℕ → State → State
regrouped n me s =
    record { history = record { past = s.history.past ++ s.history.present ∷ []; present = record { n = n; me = me; messages = [] } }; early = [] }

-- what a note makes of a state: an own message is delivered; a message becomes early; an early message is delivered, or
-- dropped; the epoch ends
abbrev pub state_noted : State → Note → State
state_noted s (Sent m) = with_own s m
state_noted s (Kept m) = with_early s m
state_noted s (Took id) =
    record { history = with_messages s.history (messages_and s.history.present.messages (find (has_id id) s.early)); early = without id s.early }
state_noted s (Crook id) = record { history = s.history; early = without id s.early }
state_noted s (Regroup epoch n me) = regrouped n me s

-- the state that notes make of a state
abbrev pub state_after : State → List Note → State
state_after s notes = fold state_noted s notes

-- the state that notes give, from nothing: first as member me of n members
abbrev pub replay : ℕ → ℕ → List Note → State
replay n me notes = state_after (start n me) notes

-- the note of a step
abbrev pub step_note : Step → Note
step_note (step.Took id) = Took id
step_note (step.Crook id cause) = Crook id

-- what sending notes, what a no-op's send does, and what receiving a message does: the message, and its steps in order
abbrev pub local_notes : Local → List Note
local_notes answer = map Sent (local_messages answer)

abbrev pub beat_notes : Beat → List Note
beat_notes answer = map Sent (beat_messages answer)

abbrev pub receive_notes : Message → Receive → List Note
receive_notes m answer = if is_accepted answer then Kept m ∷ map step_note (steps_of answer) else []

-- A group: what one call notes by the rules at a state, in a store with a window w and a limit; none is empty. What a call
-- receives is a message of the store that can be carried there: that is what receiving owes. An epoch ends where every
-- operation is stable; the last is 65535.
pub data IsGroup (w limit : ℕ) (s : State) : List Note → Type 0 where
  sent : (update : Update) (m : Message) → IsTrue (is_valid_update update) → (local_rule w limit update s).0 ≡ local.Sent m → IsGroup w limit s (Sent m ∷ [])
  beaten : (m : Message) → (beat_rule w limit s).0 ≡ beat.Sent m → IsGroup w limit s (Sent m ∷ [])
  received : (m : Message) → IsTrue (fits s.history.present.n m) → IsTrue (is_carried limit m) → refusal_of w s m ≡ None
      → IsGroup w limit s (Kept m ∷ map step_note (steps w (with_early s m)).0)
  regrouped_as : (n me : ℕ) → n ≤ 16 → me < n → epoch_of s.history < 65535 → IsTrue (is_all_stable s.history.present)
      → IsGroup w limit s (Regroup (epoch_of s.history + 1) n me ∷ [])

-- groups, one after the other from a state
abbrev pub AreGroups : ℕ → ℕ → State → List (List Note) → Type 0
AreGroups w limit s [] = Unit {0}
AreGroups w limit s (group ∷ later) = IsGroup w limit s group × AreGroups w limit (state_after s group) later

-- the notes of groups, one after the other
abbrev pub notes_of : List (List Note) → List Note
notes_of groups = flat_map (λ group. group) groups

-- Notes are legal, first for member me of n members, where they are the notes of a list of groups, from nothing.
pub record IsLegal (n w limit me : ℕ) (notes : List Note) : Type 0 where
  pub groups : List (List Note)
  pub are_groups : AreGroups w limit (start n me) groups
  pub are_theirs : notes ≡ notes_of groups
