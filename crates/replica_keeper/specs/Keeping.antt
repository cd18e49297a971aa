-- What a durable replica keeps, and what stops may leave of it.
use Rattle.std.specs.Prelude.{◌≡◌, ℕ, zero, suc, ◌+◌, ◌≤◌, Bool, true, false, List, [], ◌∷◌, ◌++◌, length, take, All, Contains, None, if◌then◌else◌}
use Rattle.op_base.specs.declared.message.Message.{Message}
use Rattle.causal_model.specs.Journal.{notes_of}
use Rattle.causal_model.specs.declared.note.Note.{Note}
use Rattle.causal_model.specs.declared.note.Note.TheVariants.{Sent, Kept, Took, Crook, Regroup}
use Rattle.world_model.specs.Records.{record_of, records_of, Settings, kept_reading, kept_prefix, kept_fault}
use Rattle.world_model.specs.Stops.{is_send, within_bytes}

-- ---- groups

-- whether a note begins the group of a call: a step follows one that does
abbrev pub begins : Note → Bool
begins (Sent m) = true
begins (Kept m) = true
begins (Took id) = false
begins (Crook id) = false
begins (Regroup epoch n me) = true

-- notes cut where groups begin: what stands before the first group, and the groups
pub record Cut : Type 0 where
  pub before : List Note
  pub groups : List (List Note)

abbrev pub cut_at : Note → Cut → Cut
cut_at note later =
    if begins note then record { before = []; groups = (note ∷ later.before) ∷ later.groups }
    else record { before = note ∷ later.before; groups = later.groups }

abbrev pub cut_of : List Note → Cut
cut_of [] = record { before = []; groups = [] }
cut_of (note ∷ notes) = cut_at note (cut_of notes)

-- the groups of a legal list of notes
abbrev pub groups_of : List Note → List (List Note)
groups_of notes = (cut_of notes).groups

-- groups with that of a call, which notes nothing where it changes nothing
abbrev pub with_group : List (List Note) → List Note → List (List Note)
with_group groups [] = groups
with_group groups (note ∷ notes) = groups ++ (note ∷ notes) ∷ []

-- ---- what is synced

-- how many bytes the records of groups have up to the last that sends
abbrev pub sent_by : ℕ → Bool → ℕ → ℕ
sent_by len send zero = if send then len else 0
sent_by len send (suc later) = len + suc later

abbrev pub sent_len : ℕ → List (List Note) → ℕ
sent_len n [] = 0
sent_len n (group ∷ groups) = sent_by (length (record_of n group)) (is_send group) (sent_len n groups)

-- each of these messages stands as sent in a group whose record lies within the bytes synced
abbrev pub AreSentWithin : ℕ → ℕ → List Note → List Message → Type 0
AreSentWithin n synced notes messages = All (λ m. Contains (notes_of (within_bytes n synced (groups_of notes))) (Sent m)) messages

-- ---- what a stop leaves

-- Bytes that a stop left are read as a front of these groups, without a fault, with each group whose record lay within the
-- bytes synced.
pub record IsFrontOf (of : Settings) (groups : List (List Note)) (synced : ℕ) (left : List ℕ) : Type 0 where
  pub front : kept_prefix of left ≡ take (length (kept_prefix of left)) groups
  pub has : length (within_bytes of.n synced groups) ≤ length (kept_prefix of left)
  pub faultless : kept_fault of left ≡ None

-- ---- what is held

-- The bytes held are exactly the records of the groups of the journal, and they are read back; those that send are synced.
pub record Keeps (of : Settings) (notes : List Note) (held : List ℕ) (synced : ℕ) : Type 0 where
  pub cut : notes_of (groups_of notes) ≡ notes
  pub records : held ≡ records_of of.n (groups_of notes)
  pub groups : kept_prefix of held ≡ groups_of notes
  pub len : (kept_reading of held).len ≡ length held
  pub faultless : (kept_reading of held).faulty ≡ false
  pub sent : sent_len of.n (groups_of notes) ≤ synced
  pub within : synced ≤ length held
