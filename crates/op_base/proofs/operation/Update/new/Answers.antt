use Rattle.op_base.proofs.Updates.{where_true-given}
use Rattle.op_base.proofs.operation.Update.new.Goals as goal

pub returns-then-is_some-clause-update : goal.returns-then-is_some-clause-update
returns-then-is_some-clause-update c = where_true-given _ _ _
