use Rattle.std.proofs.Common.{refl}
use Rattle.op_base.proofs.Updates.{same_update}
use Rattle.op_base.proofs.operation.Update.copied.Goals as goal

pub returns : goal.returns
returns c = same_update _ _ refl c.copied.ensures
