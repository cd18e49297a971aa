-- What holds of records and of what stops leave of them. Each statement is the contract of a function of laws.rt.
use Rattle.std.specs.Prelude.{◌≡◌, ℕ, List, take, Contains}
use Rattle.op_base.specs.declared.message.Message.{Message}
use Rattle.causal_model.specs.Journal.{notes_of}
use Rattle.causal_model.specs.declared.note.Note.{Note}
use Rattle.causal_model.specs.declared.note.Note.TheVariants.{Sent}
use Rattle.store_io.specs.Keeping.{Leaves}
use Rattle.world_model.specs.Journals.{sent_in}
use Rattle.world_model.specs.Records.{Settings, kept_prefix}
use Rattle.world_model.specs.Stops.{within_bytes}
use Rattle.replica_keeper.specs.Keeping.{Keeps}

-- a front of any bytes is read as the groups whose records lie within it
abbrev pub FrontsAreRead : Type 0
FrontsAreRead = (of : Settings) (bytes : List ℕ) (count : ℕ) → kept_prefix of (take count bytes) ≡ within_bytes of.n count (kept_prefix of bytes)

-- of notes all that was sent is left, in order, and nothing is added
pub record StaysSent (notes left : List Note) : Type 0 where
  pub sent : sent_in left ≡ sent_in notes
  pub there : (m : Message) → Contains notes (Sent m) → Contains left (Sent m)
  pub only : (note : Note) → Contains left note → Contains notes note

-- whatever a stop leaves of what is kept has every message that was sent: so each of an outbox, and each that was handed out
abbrev pub WhatWasSentStays : Type 0
WhatWasSentStays = (of : Settings) (notes : List Note) (held left : List ℕ) (synced : ℕ) → Keeps of notes held synced → Leaves held synced left → StaysSent notes (notes_of (kept_prefix of left))
