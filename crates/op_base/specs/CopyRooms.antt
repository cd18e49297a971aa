-- What is taken ahead for a copy: nothing, where the value that is copied stands in place, and else its bytes.
use Rattle.std.specs.Prelude.{◌≡◌, ◌<◌, ℕ, List, length}
use Rattle.std.specs.Option.{IfSome}
use Rattle.op_base.specs.InPlace.{value_in}
use Rattle.op_base.specs.declared.name.TheConstants.{VALUE_BYTES_IN_PLACE}
use Rattle.op_base.specs.declared.operation.Act.{Act}
use Rattle.op_base.specs.declared.operation.Op.{Op}
use Rattle.op_base.specs.declared.operation.Op.TheVariants as op
use Rattle.op_base.specs.declared.room.CopyRoom.{CopyRoom}

-- it is room for a copy of a value
abbrev pub IsCopyRoomForValue : CopyRoom → List ℕ → Type 0
IsCopyRoomForValue room v = VALUE_BYTES_IN_PLACE < length v → room.bytes.items ≡ v

-- for a copy of an act, whose value, where it carries one, needs it
abbrev pub IsCopyRoomForAct : CopyRoom → Act → Type 0
IsCopyRoomForAct room act = IfSome (value_in act) (λ v. IsCopyRoomForValue room v)

-- for a copy of an operation
abbrev pub IsCopyRoomFor : CopyRoom → Op → Type 0
IsCopyRoomFor room op.NoOp = Unit {0}
IsCopyRoomFor room (op.Update u) = IsCopyRoomForAct room u.act
