-- The message that bytes say, read field by field: by a law it is the one of which they are a frame.
use Rattle.std.specs.Prelude.{ℕ, ◌==◌, List, Option, Some, None, Result, Ok, Err, if◌then◌else◌}
use Rattle.op_base.specs.Reading.{update_of}
use Rattle.op_base.specs.declared.message.Message.{Message}
use Rattle.op_base.specs.declared.operation.Op.{Op}
use Rattle.op_base.specs.declared.operation.Op.TheVariants as op
use Rattle.op_base.specs.declared.operation.Update.{Update}
use Rattle.op_base.specs.Verb.{operation_of}
use Rattle.frame_codec.specs.Fault.{byte_at, code_byte, version_at, timestamp_of, behind_timestamp, text_of, behind_text, frame_fault}
use Rattle.frame_codec.specs.Reading.{act_at}
use Rattle.frame_codec.specs.declared.fault.FrameFault.{FrameFault}
use Rattle.frame_codec.specs.declared.version.Version.{Version}

-- the operation of an update, where there is one
abbrev pub op_of : Option Update → Op
op_of None = op.NoOp
op_of (Some update) = op.Update update

-- the operation of a code with the key and the argument at the front; code 0 is the no-op
abbrev pub operation_at : Version → ℕ → List ℕ → Op
operation_at version code bytes =
    if code == 0 then op.NoOp
    else op_of (update_of (record { kind = (operation_of code).0; key = text_of version bytes }) (act_at version (operation_of code).1 (behind_text version bytes)))

-- the message that bytes say in a version, in a store of n members
abbrev pub message_at : Version → ℕ → List ℕ → Message
message_at version n bytes =
    record { origin = byte_at bytes 1; tag = timestamp_of version n bytes; op = operation_at version (code_byte bytes) (behind_timestamp version n bytes) }

abbrev pub read_unless : Option FrameFault → Message → Result Message FrameFault
read_unless None m = Ok m
read_unless (Some fault) m = Err fault

-- what bytes are read as in a store of n members, in an epoch, with a limit: their first fault, or their message
abbrev pub frame_read : ℕ → ℕ → ℕ → List ℕ → Result Message FrameFault
frame_read n epoch limit bytes = read_unless (frame_fault n epoch limit bytes) (message_at (version_at bytes) n bytes)
