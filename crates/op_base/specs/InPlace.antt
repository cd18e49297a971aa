-- Which operations take no memory: those whose value, where they have one, stands in place.
use Rattle.std.specs.Prelude.{◌≤◌, ℕ, List, length, Option, Some, None}
use Rattle.std.specs.Option.{IfSome}
use Rattle.op_base.specs.declared.name.TheConstants.{VALUE_BYTES_IN_PLACE}
use Rattle.op_base.specs.declared.operation.Act.{Act}
use Rattle.op_base.specs.declared.operation.Act.TheVariants.{Add, Rmv, Write, Ins}
use Rattle.op_base.specs.declared.operation.Op.{Op}
use Rattle.op_base.specs.declared.operation.Op.TheVariants as op

-- the value that an act carries
abbrev pub value_in : Act → Option (List ℕ)
value_in (Add v) = Some v
value_in (Rmv v) = Some v
value_in (Write v) = Some v
value_in (Ins v place) = Some v
value_in act = None

-- the act's value, where it has one, stands in place
abbrev pub IsActInPlace : Act → Type 0
IsActInPlace act = IfSome (value_in act) (λ v. length v ≤ VALUE_BYTES_IN_PLACE)

-- the operation's value, where it has one, stands in place
abbrev pub IsInPlace : Op → Type 0
IsInPlace op.NoOp = Unit {0}
IsInPlace (op.Update u) = IsActInPlace u.act
