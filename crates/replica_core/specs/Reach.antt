-- What an operation may cover of its object, by the store's rules.
use Rattle.std.specs.Prelude.{if◌then◌else◌}
use Rattle.op_base.specs.declared.name.Kind.{Kind}
use Rattle.op_base.specs.declared.name.Kind.TheVariants.{AwSet, RwSet, EwFlag, DwFlag, MvReg, Counter, RCounter}
use Rattle.op_base.specs.declared.name.Kind.TheVariants as kinds
use Rattle.op_base.specs.declared.operation.Act.{Act}
use Rattle.op_base.specs.declared.operation.Op.{Op}
use Rattle.op_base.specs.declared.operation.Op.TheVariants as op
use Rattle.causal_model.specs.Acts.{is_clear}
use Rattle.polog.specs.declared.reach.Reach.{Reach}
use Rattle.polog.specs.declared.reach.Reach.TheVariants.{Nothing, Value, Object}

-- what an act of a kind may cover
abbrev pub reach_in : Kind → Act → Reach
reach_in AwSet act = if is_clear act then Object else Value
reach_in RwSet act = if is_clear act then Object else Value
reach_in EwFlag act = Object
reach_in DwFlag act = Object
reach_in MvReg act = Object
reach_in Counter act = Nothing
reach_in RCounter act = if is_clear act then Object else Nothing
reach_in kinds.List act = Nothing

-- what an operation may cover
abbrev pub reach_of : Op → Reach
reach_of op.NoOp = Nothing
reach_of (op.Update u) = reach_in u.object.kind u.act
