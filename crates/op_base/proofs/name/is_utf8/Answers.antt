use Rattle.op_base.proofs.Names.{utf8_tested}
use Rattle.op_base.proofs.name.is_utf8.Goals as goal

pub returns : goal.returns
returns c = utf8_tested c.is_utf8.result c.args.bytes.now c.is_utf8.ensures
