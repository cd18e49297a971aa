use Rattle.std.proofs.Common.{sym, ◌∙◌}
use Rattle.op_base.proofs.Names.{value_exactly}
use Rattle.op_base.proofs.name.Value.read.Goals as goal

pub invariant_of-result : goal.invariant_of-result
invariant_of-result c = c.in_ok-of-in-None.ensures.kept ((value_exactly c.args.bytes.now).1 (sym c.value_fault.ensures ∙ c.in-None.is))

pub returns-in_ok-of-in-None-clause-valid : goal.returns-in_ok-of-in-None-clause-valid
returns-in_ok-of-in-None-clause-valid c = (value_exactly c.args.bytes.now).1 (sym c.value_fault.ensures ∙ c.in-None.is)
