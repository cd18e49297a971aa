-- What the bytes of a frame say where they have no fault, for the contracts of the readers of its fields.
use Rattle.std.specs.Prelude.{◌≡◌, ℕ, ◌+◌, ◌*◌, ◌≤◌, Bool, true, false, not, ◌&&◌, ◌==◌, Result, Ok, Err, Option, Some, None, nat_lt, nat_le, List, length, take, drop, if◌then◌else◌}
use Rattle.std.specs.Int.{w32, from_be_bytes}
use Rattle.op_base.specs.Name.{is_key}
use Rattle.op_base.specs.declared.message.Message.{Message}
use Rattle.op_base.specs.declared.name.NameFault.{NameFault}
use Rattle.op_base.specs.declared.name.NameFault.TheVariants.{NoMemory}
use Rattle.op_base.specs.declared.operation.Act.{Act}
use Rattle.op_base.specs.declared.operation.Act.TheVariants as acts
use Rattle.op_base.specs.declared.operation.Op.{Op}
use Rattle.op_base.specs.declared.operation.Op.TheVariants as op
use Rattle.op_base.specs.declared.tag.ElementId.{ElementId}
use Rattle.frame_codec.specs.declared.fault.FrameFault.{FrameFault}
use Rattle.frame_codec.specs.declared.fault.FrameFault.TheVariants.{Short, Version as OfVersion, Epoch, Members, Origin, Code, BadKey, Argument, Rest}
use Rattle.frame_codec.specs.declared.fault.DecodeFault.{DecodeFault}
use Rattle.frame_codec.specs.declared.fault.DecodeFault.TheVariants.{Frame}
use Rattle.frame_codec.specs.declared.fault.DecodeFault.TheVariants as faults
use Rattle.op_base.specs.declared.verb.Verb.{Verb}
use Rattle.op_base.specs.Verb.{argument_of, operation_of}
use Rattle.op_base.specs.declared.verb.Verb.TheVariants.{Add, Rmv, Clear, Enable, Disable, Write, Inc, Dec, Ins, Del}
use Rattle.frame_codec.specs.declared.version.Version.{Version}
use Rattle.frame_codec.specs.Grammar.{version_byte, is_sent, last_code}
use Rattle.frame_codec.specs.Fault.{byte_at, code_byte, element_at, is_id_field, is_place_field, behind_place, head_len, is_read_in, is_bad_epoch, timestamp_of, behind_timestamp, text_of, behind_text, is_text_field, is_whole_argument, behind_whole}

-- whether the text that a reader of names was given was a name
abbrev pub is_name : {T : Type 0} → Result T NameFault → Bool
is_name (Ok name) = true
is_name (Err NoMemory) = true
is_name (Err fault) = false

-- the place at the front
abbrev pub place_at : List ℕ → Option ElementId
place_at bytes = if byte_at bytes 0 == 0 then None else Some (element_at (drop 1 bytes))

-- whether a verb's argument stands at the front
abbrev pub is_argument : Version → Verb → List ℕ → Bool
is_argument version verb bytes = is_whole_argument version (argument_of verb) bytes

-- the act of a verb with the argument at the front
abbrev pub act_at : Version → Verb → List ℕ → Act
act_at version Add bytes = acts.Add (text_of version bytes)
act_at version Rmv bytes = acts.Rmv (text_of version bytes)
act_at version Clear bytes = acts.Clear
act_at version Enable bytes = acts.Enable
act_at version Disable bytes = acts.Disable
act_at version Write bytes = acts.Write (text_of version bytes)
act_at version Inc bytes = acts.Inc (from_be_bytes w32 (take 4 bytes))
act_at version Dec bytes = acts.Dec (from_be_bytes w32 (take 4 bytes))
act_at version Ins bytes = acts.Ins (text_of version bytes) (place_at (behind_text version bytes))
act_at version Del bytes = acts.Del (element_at bytes)

-- what stands behind a verb's argument
abbrev pub behind_act : Version → Verb → List ℕ → List ℕ
behind_act version verb bytes = behind_whole version (argument_of verb) bytes

-- the first fault of a key and an argument of this code at the front
abbrev pub operation_fault : Version → ℕ → List ℕ → Option FrameFault
operation_fault version code bytes =
    if code == 0 then None
    else if not (is_text_field version is_key bytes) then Some BadKey
    else if not (is_argument version (operation_of code).1 (behind_text version bytes)) then Some Argument
    else None

-- what stands behind them
abbrev pub behind_operation : Version → ℕ → List ℕ → List ℕ
behind_operation version code bytes = if code == 0 then bytes else behind_act version (operation_of code).1 (behind_text version bytes)

-- the fault of bytes behind the last field
abbrev pub rest_fault : List ℕ → Option FrameFault
rest_fault rest = if nat_lt 0 (length rest) then Some Rest else None

-- a fault, and where there is none another
abbrev pub or_else : Option FrameFault → Option FrameFault → Option FrameFault
or_else None second = second
or_else (Some fault) second = Some fault

-- the first fault of a value with nothing behind it
abbrev pub value_fault : Version → List ℕ → Option FrameFault
value_fault version bytes = or_else (if not (is_text_field version (is_sent version) bytes) then Some Argument else None) (rest_fault (behind_text version bytes))

-- the first fault of an amount with nothing behind it
abbrev pub amount_fault : List ℕ → Option FrameFault
amount_fault bytes = or_else (if not (nat_le 4 (length bytes)) then Some Argument else None) (rest_fault (drop 4 bytes))

-- the first fault of a value and a place with nothing behind them
abbrev pub insertion_fault : Version → List ℕ → Option FrameFault
insertion_fault version bytes =
    or_else (if not (is_text_field version (is_sent version) bytes && is_place_field (behind_text version bytes)) then Some Argument else None) (rest_fault (behind_place (behind_text version bytes)))

-- the first fault of an id with nothing behind it
abbrev pub id_fault : List ℕ → Option FrameFault
id_fault bytes = or_else (if not (is_id_field bytes) then Some Argument else None) (rest_fault (drop 9 bytes))

-- the first fault of a verb's argument with nothing behind it
abbrev pub act_fault : Version → Verb → List ℕ → Option FrameFault
act_fault version verb bytes = or_else (if not (is_argument version verb bytes) then Some Argument else None) (rest_fault (behind_act version verb bytes))

-- the first fault of a key and an argument of this code with nothing behind them
abbrev pub fields_fault : Version → ℕ → List ℕ → Option FrameFault
fields_fault version code bytes = or_else (operation_fault version code bytes) (rest_fault (behind_operation version code bytes))

-- why bytes with this fault are not decoded: for the fault, and where there is none for want of memory
abbrev pub IsWhy : Option FrameFault → DecodeFault → Type 0
IsWhy (Some fault) e = e ≡ Frame fault
IsWhy None e = e ≡ faults.NoMemory

-- the operation is the one of this code with the key and the argument at the front
abbrev pub SaysOperation : Version → ℕ → List ℕ → Op → Type 0
SaysOperation version code bytes op.NoOp = code ≡ 0
SaysOperation version code bytes (op.Update u) =
    (1 ≤ code) × (u.object ≡ record { kind = (operation_of code).0; key = text_of version bytes }) × (u.act ≡ act_at version (operation_of code).1 (behind_text version bytes))

-- the first fault of what stands in front of the timestamp, and of bytes too short for it and a timestamp
abbrev pub head_fault : Version → ℕ → ℕ → List ℕ → Option FrameFault
head_fault version n epoch bytes =
    if nat_lt (length bytes) (head_len version + 4 * n) then Some Short
    else if not (byte_at bytes 0 == version_byte version && is_read_in version epoch) then Some OfVersion
    else if is_bad_epoch version epoch bytes then Some Epoch
    else if not (byte_at bytes 2 == n) then Some Members
    else if nat_le n (byte_at bytes 1) then Some Origin
    else if nat_lt (last_code version) (byte_at bytes 3) then Some Code
    else None

-- the message is what the bytes say
pub record Says (version : Version) (n : ℕ) (bytes : List ℕ) (m : Message) : Type 0 where
  pub origin : m.origin ≡ byte_at bytes 1
  pub tag : m.tag ≡ timestamp_of version n bytes
  pub operation : SaysOperation version (code_byte bytes) (behind_timestamp version n bytes) m.op
