-- The records by which a durable replica keeps its groups of notes, and what bytes of records are read as, whatever a stop
-- left of their end. A record is the length of its rest, a byte that says how its message came, and the message's frame. They
-- are this project's own profile.
use Rattle.std.specs.Prelude.{ℕ, zero, suc, ◌+◌, Bool, true, false, ◌||◌, ◌==◌, nat_lt, List, [], ◌∷◌, ◌++◌, length, take, drop, Result, Ok, Err, Option, Some, None, if◌then◌else◌}
use Rattle.std.specs.List.{flat_map}
use Rattle.std.specs.Int.{w32, to_be_bytes, from_be_bytes}
use Rattle.op_base.specs.Name.{same_text}
use Rattle.op_base.specs.declared.message.Message.{Message}
use Rattle.op_base.specs.declared.operation.Op.{Op}
use Rattle.op_base.specs.declared.operation.Op.TheVariants as op
use Rattle.causal_model.specs.Journal.{state_after, local_notes, beat_notes, receive_notes}
use Rattle.causal_model.specs.Receiving.{receive_rule}
use Rattle.causal_model.specs.Sending.{local_rule, beat_rule}
use Rattle.causal_model.specs.State.{State, start}
use Rattle.causal_model.specs.declared.note.Note.{Note}
use Rattle.causal_model.specs.declared.note.Note.TheVariants.{Sent, Kept, Took, Crook, Regroup}
use Rattle.frame_codec.specs.Grammar.{frame_of}
use Rattle.frame_codec.specs.Message.{frame_read}
use Rattle.frame_codec.specs.declared.fault.FrameFault.{FrameFault}
use Rattle.frame_codec.specs.declared.version.Version.TheVariants.{Two}

-- ---- records

-- the rest of a record may have at most so many bytes
abbrev pub most_record_bytes : ℕ
most_record_bytes = 8192

-- what stands behind the length, in a store of n members: 1 and the frame of a message that was sent, 2 and that of one that
-- was accepted
abbrev pub content_of : ℕ → List Note → List ℕ
content_of n [] = []
content_of n (Sent m ∷ notes) = 1 ∷ frame_of Two n 0 m
content_of n (Kept m ∷ notes) = 2 ∷ frame_of Two n 0 m
content_of n (Took id ∷ notes) = []
content_of n (Crook id ∷ notes) = []
content_of n (Regroup epoch count me ∷ notes) = []

-- a record with this behind its length
abbrev pub record_with : List ℕ → List ℕ
record_with content = to_be_bytes w32 (length content) ++ content

-- the record of a group
abbrev pub record_of : ℕ → List Note → List ℕ
record_of n group = record_with (content_of n group)

-- the records of groups
abbrev pub records_of : ℕ → List (List Note) → List ℕ
records_of n groups = flat_map (record_of n) groups

-- ---- reading

-- what stands at the front of bytes: no whole record, a length that no record has, or a record's content and what is behind it
pub data Front : Type 0 where
  torn : Front
  misfit : Front
  whole : List ℕ → List ℕ → Front

abbrev pub front_by : ℕ → List ℕ → Front
front_by len rest =
    if (len == 0) || nat_lt most_record_bytes len then misfit
    else if nat_lt (length rest) len then torn
    else whole (take len rest) (drop len rest)

abbrev pub front_of : List ℕ → Front
front_of bytes = if nat_lt (length bytes) 4 then torn else front_by (from_be_bytes w32 (take 4 bytes)) (drop 4 bytes)

-- the notes of the call that sends a message's operation at a state, in a store with a window w and a limit
abbrev pub notes_sent : ℕ → ℕ → State → Op → List Note
notes_sent w limit s op.NoOp = beat_notes (beat_rule w limit s).0
notes_sent w limit s (op.Update u) = local_notes (local_rule w limit u s).0

-- the notes of the call that a record tells: a send, or a message that is received
abbrev pub notes_by : ℕ → ℕ → State → ℕ → Result Message FrameFault → List Note
notes_by w limit s way (Err fault) = []
notes_by w limit s way (Ok m) =
    if way == 1 then notes_sent w limit s m.op
    else if way == 2 then receive_notes m (receive_rule w m s).0
    else []

-- the notes of the call that a record's content tells at a state, in a store of n members
abbrev pub notes_told : ℕ → ℕ → ℕ → State → List ℕ → List Note
notes_told n w limit s [] = []
notes_told n w limit s (way ∷ frame) = notes_by w limit s way (frame_read n 0 limit frame)

-- The group that a record's content tells at a state, where it is what one call gives there: its record has this very content.
abbrev pub group_if : ℕ → List ℕ → List Note → Option (List Note)
group_if n content notes = if same_text (content_of n notes) content then Some notes else None

abbrev pub group_told : ℕ → ℕ → ℕ → State → List ℕ → Option (List Note)
group_told n w limit s content = group_if n content (notes_told n w limit s content)

-- What bytes are read as from a state on: the groups of their whole records up to the first fault, how many bytes those
-- records have, and whether there is a fault behind them.
pub record Reading : Type 0 where
  pub groups : List (List Note)
  pub len : ℕ
  pub faulty : Bool

-- nothing more is read: there is none, or a fault
abbrev pub read_none : Reading
read_none = record { groups = []; len = 0; faulty = false }

abbrev pub read_fault : Reading
read_fault = record { groups = []; len = 0; faulty = true }

-- a group before what else is read
abbrev pub read_group : List Note → ℕ → Reading → Reading
read_group group len later = record { groups = group ∷ later.groups; len = len + later.len; faulty = later.faulty }

-- a record of so many bytes, by the group that it tells and what is read behind it from the state after that group
abbrev pub read_told : State → ℕ → (State → Reading) → Option (List Note) → Reading
read_told s len later None = read_fault
read_told s len later (Some group) = read_group group len (later (state_after s group))

abbrev pub read_front : ℕ → ℕ → ℕ → State → (State → List ℕ → Reading) → Front → Reading
read_front n w limit s later torn = read_none
read_front n w limit s later misfit = read_fault
read_front n w limit s later (whole content rest) = read_told s (length content + 4) (λ next. later next rest) (group_told n w limit s content)

-- at most so many records
abbrev pub reading_within : ℕ → ℕ → ℕ → ℕ → State → List ℕ → Reading
reading_within zero n w limit s bytes = read_none
reading_within (suc most) n w limit s bytes = read_front n w limit s (λ next rest. reading_within most n w limit next rest) (front_of bytes)

-- the reading of bytes from a state, in a store of n members with a window w and a limit; a record has at least five bytes
abbrev pub reading_from : ℕ → ℕ → ℕ → State → List ℕ → Reading
reading_from n w limit s bytes = reading_within (length bytes) n w limit s bytes

-- ---- what is kept

-- the four numbers that a replica is started with
pub record Settings : Type 0 where
  pub me : ℕ
  pub n : ℕ
  pub w : ℕ
  pub limit : ℕ

-- what the records of a replica are read as
abbrev pub kept_reading : Settings → List ℕ → Reading
kept_reading of bytes = reading_from of.n of.w of.limit (start of.n of.me) bytes

-- The kept prefix: the groups of notes of the whole records, read from the front, each being what one call gives at the replay
-- of the groups before it.
abbrev pub kept_prefix : Settings → List ℕ → List (List Note)
kept_prefix of bytes = (kept_reading of bytes).groups

-- the first fault of the bytes: a length of 0 or above the most, or a whole record that isn't what one call gives there. It
-- stands where the record begins.
abbrev pub fault_by : Reading → Option ℕ
fault_by reading = if reading.faulty then Some reading.len else None

abbrev pub kept_fault : Settings → List ℕ → Option ℕ
kept_fault of bytes = fault_by (kept_reading of bytes)
