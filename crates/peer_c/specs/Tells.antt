-- What the C library tells of a peer's answers, and what it hands out of them.
use Rattle.std.specs.Prelude.{◌≡◌, ◌++◌, ◌<◌, ◌≤◌, ◌∷◌, ◌⊎◌, [], ℕ, Bool, true, false, List, Option, Some, None, Result, Err, if◌then◌else◌, length, drop, slice_index_or}
use Rattle.std.specs.List.{filter}
use Rattle.op_base.specs.declared.operation.Update.{Update}
use Rattle.op_base.specs.declared.outcome.Step.{Step}
use Rattle.op_base.specs.declared.outcome.Step.TheVariants as step
use Rattle.frame_codec.specs.Fault.{fault_number}
use Rattle.script_lang.specs.Acts.{are_few, update_in}
use Rattle.script_lang.specs.Fault.{number_of_fault}
use Rattle.script_lang.specs.Words.{words_of}
use Rattle.script_lang.specs.declared.fault.Fault.{Fault}
use Rattle.script_lang.specs.declared.fault.Fault.TheVariants as fault
use Rattle.peer.specs.declared.answers.Updated.{Updated}
use Rattle.peer.specs.declared.answers.Updated.TheVariants as updated
use Rattle.peer.specs.declared.answers.Beat.{Beat}
use Rattle.peer.specs.declared.answers.Beat.TheVariants as beat
use Rattle.peer.specs.declared.answers.Heard.{Heard}
use Rattle.peer.specs.declared.answers.Heard.TheVariants as heard
use Rattle.peer_c.specs.declared.outcome.Outcome.{Outcome}
use Rattle.peer_c.specs.declared.outcome.Outcome.TheVariants as outcome

-- the update that words are: an object, an operation and no more than two arguments
abbrev pub words_update : List (List ℕ) → Result Update Fault
words_update (object ∷ operation ∷ arguments) = if are_few arguments then update_in object operation arguments else Err fault.Words
words_update words = Err fault.Words

-- the update that a text is
abbrev pub text_update : List ℕ → Result Update Fault
text_update text = words_update (words_of text)

-- what a text is told as that has a fault: the fault's number, where it has one
abbrev pub told_number : Option ℕ → Outcome
told_number (Some number) = outcome.BadText number
told_number None = outcome.NoMemory

abbrev pub told_fault : Fault → Outcome
told_fault fault = told_number (number_of_fault fault)

-- what an update is told as
abbrev pub told_update : Updated → Outcome
told_update (updated.Frame frame) = outcome.Done
told_update updated.Busy = outcome.Busy
told_update updated.End = outcome.End
told_update updated.NoMemory = outcome.NoMemory

-- what a beat is told as
abbrev pub told_beat : Beat → Outcome
told_beat (beat.Frame frame) = outcome.Done
told_beat beat.Quiet = outcome.Quiet
told_beat beat.Held = outcome.Held
told_beat beat.End = outcome.End
told_beat beat.NoMemory = outcome.NoMemory

-- what bytes that are heard are told as
abbrev pub told_heard : Heard → Outcome
told_heard (heard.Bad fault) = outcome.BadFrame (fault_number fault)
told_heard heard.Old = outcome.Old
told_heard heard.Again = outcome.Again
told_heard heard.Far = outcome.Far
told_heard heard.Kept = outcome.Kept
told_heard (heard.Took steps) = outcome.Done
told_heard heard.NoMemory = outcome.NoMemory

-- whether something was done
abbrev pub is_done : Outcome → Bool
is_done outcome.Done = true
is_done answer = false

-- whether bytes were a frame
abbrev pub is_frame : Outcome → Bool
is_frame (outcome.BadFrame fault) = false
is_frame answer = true

-- a rule whose answers are told
abbrev pub tells : {A S : Type 0} → (A → Outcome) → (S → A × S) → S → Outcome × S
tells tell rule s = (tell (rule s).0, (rule s).1)

-- the frame of an update
abbrev pub update_frame : Updated → List ℕ
update_frame (updated.Frame frame) = frame
update_frame answer = []

-- the frame of a beat
abbrev pub beat_frame : Beat → List ℕ
beat_frame (beat.Frame frame) = frame
beat_frame answer = []

-- what became of early messages
abbrev pub heard_steps : Heard → List Step
heard_steps (heard.Took steps) = steps
heard_steps answer = []

-- whether an early message was delivered
abbrev pub is_delivery : Step → Bool
is_delivery (step.Took id) = true
is_delivery (step.Crook id why) = false

-- how many early messages were delivered
abbrev pub delivered_in : List Step → ℕ
delivered_in steps = length (filter is_delivery steps)

-- bytes stand at the head of a buffer where there is room for all of them, and else it is as before; their number is told
abbrev pub IsHandedOut : List ℕ → List ℕ → List ℕ → ℕ → Type 0
IsHandedOut bytes old new count = (count ≡ length bytes) × (length bytes ≤ length old → new ≡ bytes ++ drop (length bytes) old) × (length old < length bytes → new ≡ old)

-- bytes are told: with `Done` they stand at the head of the buffer, which is long enough; with `NoRoom`, exactly where it is
-- shorter than they are, it is as before; their number is told in both cases
abbrev pub IsTold : List ℕ → List ℕ → List ℕ → ℕ → Outcome → Type 0
IsTold bytes old new count answer = (count ≡ length bytes)
    × (((length bytes ≤ length old) × (answer ≡ outcome.Done) × (new ≡ bytes ++ drop (length bytes) old)) ⊎ ((length old < length bytes) × (answer ≡ outcome.NoRoom) × (new ≡ old)))

-- the frame at a place is told, or that there is none
abbrev pub IsFrameTold : List (List ℕ) → ℕ → List ℕ → List ℕ → ℕ → Outcome → Type 0
IsFrameTold frames place old new count answer =
    ((place < length frames) × IsTold (slice_index_or frames place []) old new count answer) ⊎ ((length frames ≤ place) × (answer ≡ outcome.NoFrame))
