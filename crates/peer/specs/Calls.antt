-- What a call answers, by what the replica's call answered. All is of the first epoch, 0.
use Rattle.std.specs.Prelude.{ℕ, Bool, true, false}
use Rattle.causal_model.specs.declared.outcome.Local.{Local}
use Rattle.causal_model.specs.declared.outcome.Local.TheVariants as local
use Rattle.causal_model.specs.declared.outcome.Beat.{Beat as ReplicaBeat}
use Rattle.causal_model.specs.declared.outcome.Beat.TheVariants as beat_of_replica
use Rattle.causal_model.specs.declared.outcome.Receive.{Receive}
use Rattle.causal_model.specs.declared.outcome.Receive.TheVariants as receive
use Rattle.frame_codec.specs.Grammar.{frame_of}
use Rattle.frame_codec.specs.declared.version.Version.TheVariants.{Two}
use Rattle.peer.specs.declared.answers.Updated.{Updated}
use Rattle.peer.specs.declared.answers.Updated.TheVariants as updated
use Rattle.peer.specs.declared.answers.Beat.{Beat}
use Rattle.peer.specs.declared.answers.Beat.TheVariants as beat
use Rattle.peer.specs.declared.answers.Heard.{Heard}
use Rattle.peer.specs.declared.answers.Heard.TheVariants as heard

-- an update, in a store of n members: a message is sent as its frame
abbrev pub updated_of : ℕ → Local → Updated
updated_of n (local.Sent m) = updated.Frame (frame_of Two n 0 m)
updated_of n local.Busy = updated.Busy
updated_of n local.End = updated.End
updated_of n local.NoMemory = updated.NoMemory

-- a beat: a no-op is sent as its frame
abbrev pub beaten_of : ℕ → ReplicaBeat → Beat
beaten_of n (beat_of_replica.Sent m) = beat.Frame (frame_of Two n 0 m)
beaten_of n beat_of_replica.Quiet = beat.Quiet
beaten_of n beat_of_replica.Held = beat.Held
beaten_of n beat_of_replica.End = beat.End
beaten_of n beat_of_replica.NoMemory = beat.NoMemory

-- the bytes of a message
abbrev pub heard_of : Receive → Heard
heard_of receive.Old = heard.Old
heard_of receive.Again = heard.Again
heard_of receive.Far = heard.Far
heard_of receive.Kept = heard.Kept
heard_of (receive.Took steps) = heard.Took steps
heard_of receive.NoMemory = heard.NoMemory

-- whether a frame was sent: memory is taken for that alone
abbrev pub is_framed : Updated → Bool
is_framed (updated.Frame frame) = true
is_framed answer = false

abbrev pub is_beat_framed : Beat → Bool
is_beat_framed (beat.Frame frame) = true
is_beat_framed answer = false

-- whether bytes were a frame: memory is taken to read its message
abbrev pub is_read : Heard → Bool
is_read (heard.Bad fault) = false
is_read answer = true

-- whether its message was taken in
abbrev pub is_taken : Heard → Bool
is_taken heard.Kept = true
is_taken (heard.Took steps) = true
is_taken answer = false
