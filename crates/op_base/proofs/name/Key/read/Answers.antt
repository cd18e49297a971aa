use Rattle.std.proofs.Common.{sym, ◌∙◌}
use Rattle.op_base.proofs.Names.{key_exactly}
use Rattle.op_base.proofs.name.Key.read.Goals as goal

pub stored-requires : goal.stored-requires
stored-requires c = (key_exactly c.args.bytes.now).1 (sym c.key_fault.ensures ∙ c.in-None.is)
