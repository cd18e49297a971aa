-- Which operations a frame can carry.
use Rattle.std.specs.Prelude.{Bool, true, ◌&&◌, nat_lt, Option, Some, None}
use Rattle.op_base.specs.Name.{is_key, is_value}
use Rattle.op_base.specs.declared.operation.Act.{Act}
use Rattle.op_base.specs.declared.operation.Act.TheVariants.{Add, Rmv, Clear, Enable, Disable, Write, Inc, Dec, Ins, Del}
use Rattle.op_base.specs.declared.tag.ElementId.{ElementId}
use Rattle.op_base.specs.declared.operation.Update.{Update}
use Rattle.op_base.specs.declared.operation.Op.{Op}
use Rattle.op_base.specs.declared.operation.Op.TheVariants as op

-- whether an element's numbers are ones of 32 bits and 8
abbrev pub is_valid_id : ElementId → Bool
is_valid_id id = nat_lt id.epoch 4294967296 && nat_lt id.origin 256 && nat_lt id.seq 4294967296

-- whether a place in a list is the beginning, or the id of an element
abbrev pub is_valid_place : Option ElementId → Bool
is_valid_place None = true
is_valid_place (Some id) = is_valid_id id

-- whether what an act names is a value, and its amount a number of 32 bits
abbrev pub is_valid_act : Act → Bool
is_valid_act (Add v) = is_value v
is_valid_act (Rmv v) = is_value v
is_valid_act Clear = true
is_valid_act Enable = true
is_valid_act Disable = true
is_valid_act (Write v) = is_value v
is_valid_act (Inc amount) = nat_lt amount 4294967296
is_valid_act (Dec amount) = nat_lt amount 4294967296
is_valid_act (Ins v place) = is_value v && is_valid_place place
is_valid_act (Del id) = is_valid_id id

-- whether an update's object has a key, and its act is valid
abbrev pub is_valid_update : Update → Bool
is_valid_update u = is_key u.object.key && is_valid_act u.act

-- whether an operation is valid; the no-op always is
abbrev pub is_valid : Op → Bool
is_valid op.NoOp = true
is_valid (op.Update u) = is_valid_update u
