-- What a message does to an object, as tests. The acts are those of the usual kinds, as this project's own profile has
-- them.
use Rattle.std.specs.Prelude.{ℕ, Bool, true, false, ◌&&◌, ℤ, pos, neg_ℤ, List, Option, Some, None, if◌then◌else◌}
use Rattle.op_base.specs.Name.{same_text}
use Rattle.op_base.specs.Object.{same_object}
use Rattle.op_base.specs.declared.name.ObjectId.{ObjectId}
use Rattle.op_base.specs.declared.operation.Act.{Act}
use Rattle.op_base.specs.declared.operation.Act.TheVariants.{Add, Rmv, Clear, Enable, Disable, Write, Inc, Dec}
use Rattle.op_base.specs.declared.operation.Op.{Op}
use Rattle.op_base.specs.declared.operation.Op.TheVariants as op

-- whether an operation does an act that passes to an object
abbrev pub acts_on : ObjectId → (Act → Bool) → Op → Bool
acts_on object passes op.NoOp = false
acts_on object passes (op.Update u) = same_object u.object object && passes u.act

-- whether an act adds a value
abbrev pub is_add_of : List ℕ → Act → Bool
is_add_of value (Add v) = same_text v value
is_add_of value act = false

-- whether an act removes a value
abbrev pub is_rmv_of : List ℕ → Act → Bool
is_rmv_of value (Rmv v) = same_text v value
is_rmv_of value act = false

-- whether an act writes a value
abbrev pub is_write_of : List ℕ → Act → Bool
is_write_of value (Write v) = same_text v value
is_write_of value act = false

-- whether an act writes, whatever the value
abbrev pub is_write : Act → Bool
is_write (Write v) = true
is_write act = false

-- whether an act clears its object
abbrev pub is_clear : Act → Bool
is_clear Clear = true
is_clear act = false

-- whether an act enables a flag
abbrev pub is_enable : Act → Bool
is_enable Enable = true
is_enable act = false

-- whether an act disables a flag
abbrev pub is_disable : Act → Bool
is_disable Disable = true
is_disable act = false

-- the value that an act names
abbrev pub value_of : Act → Option (List ℕ)
value_of (Add v) = Some v
value_of (Rmv v) = Some v
value_of (Write v) = Some v
value_of act = None

-- what an act adds to a counter
abbrev pub amount_of : Act → ℤ
amount_of (Inc a) = pos a
amount_of (Dec a) = neg_ℤ (pos a)
amount_of other = pos 0

-- what an operation adds to a counter
abbrev pub share_of : ObjectId → Op → ℤ
share_of object op.NoOp = pos 0
share_of object (op.Update u) = if same_object u.object object then amount_of u.act else pos 0

-- whether two acts name the same value
abbrev pub same_value : Option (List ℕ) → Option (List ℕ) → Bool
same_value None other = false
same_value (Some v) None = false
same_value (Some v) (Some w) = same_text v w
