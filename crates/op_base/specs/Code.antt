-- The code of an operation.
use Rattle.std.specs.Prelude.{ℕ, unwrap_or}
use Rattle.op_base.specs.Operation.{act_code}
use Rattle.op_base.specs.declared.operation.Op.{Op}
use Rattle.op_base.specs.declared.operation.Op.TheVariants as op

-- the code of the act that is sent, and 0 for the no-op
abbrev pub op_code : Op → ℕ
op_code op.NoOp = 0
op_code (op.Update u) = unwrap_or (act_code u.object.kind u.act) 0
