-- Bytes that are offered to a replica: they are read by the grammar of frames.
use Rattle.std.specs.Prelude.{ℕ, Bool, true, false, List, Result, Ok, Err}
use Rattle.op_base.specs.declared.message.Message.{Message}
use Rattle.causal_model.specs.History.{epoch_of}
use Rattle.frame_codec.specs.Message.{frame_read}
use Rattle.frame_codec.specs.declared.fault.FrameFault.{FrameFault}
use Rattle.world_model.specs.World.{PlainWorld, size_of, replica_of, offer_at}
use Rattle.world_model.specs.declared.outcome.RawGot.{RawGot}
use Rattle.world_model.specs.declared.outcome.RawGot.TheVariants as raw

-- the message that bytes are at a replica, or their first fault
abbrev pub read_at : PlainWorld → ℕ → List ℕ → Result Message FrameFault
read_at world r bytes = frame_read (size_of world) (epoch_of (replica_of world r).history) world.limit bytes

-- offering the message of bytes to a replica, where they are a frame
abbrev pub raw_of : ℕ → PlainWorld → Result Message FrameFault → RawGot × PlainWorld
raw_of r world (Ok m) = let made = offer_at r m world in (raw.Got made.0, made.1)
raw_of r world (Err fault) = (raw.Bad fault, world)

-- whether bytes were a frame: memory is wanted only of one
abbrev pub is_frame : RawGot → Bool
is_frame (raw.Bad fault) = false
is_frame answer = true

-- offering bytes to a replica, and the world after it; they are not added to what was sent
abbrev pub raw_at : ℕ → List ℕ → PlainWorld → RawGot × PlainWorld
raw_at r bytes world = raw_of r world (read_at world r bytes)
