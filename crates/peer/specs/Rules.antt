-- The rules of a peer's calls, in a store of n members with a window w and a limit: what a call answers at a state, and the
-- state after it. All is of the first epoch, 0.
use Rattle.std.specs.Prelude.{ℕ, List, map, Result, Ok, Err}
use Rattle.op_base.specs.declared.message.Message.{Message}
use Rattle.op_base.specs.declared.operation.Update.{Update}
use Rattle.causal_model.specs.Receiving.{receive_rule}
use Rattle.causal_model.specs.Sending.{local_rule, beat_rule, outbox_of}
use Rattle.causal_model.specs.State.{State}
use Rattle.frame_codec.specs.Grammar.{frame_of}
use Rattle.frame_codec.specs.Message.{frame_read}
use Rattle.frame_codec.specs.declared.fault.FrameFault.{FrameFault}
use Rattle.frame_codec.specs.declared.version.Version.TheVariants.{Two}
use Rattle.replica_core.specs.declared.replica.Replica.{Replica}
use Rattle.peer.specs.Calls.{updated_of, beaten_of, heard_of}
use Rattle.peer.specs.declared.answers.Updated.{Updated}
use Rattle.peer.specs.declared.answers.Beat.{Beat}
use Rattle.peer.specs.declared.answers.Heard.{Heard}
use Rattle.peer.specs.declared.answers.Heard.TheVariants as heard

-- an update: the frame is that of the message that the rule of sending gives
abbrev pub update_rule : ℕ → ℕ → ℕ → Update → State → Updated × State
update_rule n w limit update s = let made = local_rule w limit update s in (updated_of n made.0, made.1)

-- a beat
abbrev pub peer_beat_rule : ℕ → ℕ → ℕ → State → Beat × State
peer_beat_rule n w limit s = let made = beat_rule w limit s in (beaten_of n made.0, made.1)

-- bytes: why they are no frame, or what comes of their message by the rule of receiving
abbrev pub hear_by : ℕ → Result Message FrameFault → State → Heard × State
hear_by w (Err fault) s = (heard.Bad fault, s)
hear_by w (Ok m) s = let got = receive_rule w m s in (heard_of got.0, got.1)

abbrev pub hear_rule : ℕ → ℕ → ℕ → List ℕ → State → Heard × State
hear_rule n w limit bytes s = hear_by w (frame_read n 0 limit bytes) s

-- the frame of a message, in the version that is written
abbrev pub frame_at : Replica → Message → List ℕ
frame_at r m = frame_of Two r.n 0 m

-- the frames of the own messages that aren't stable in a state, oldest first
abbrev pub frames_again : Replica → State → List (List ℕ)
frames_again r s = map (frame_at r) (outbox_of r.n r.me s.history.present.messages)
