use Rattle.op_base.proofs.Names.{key_exactly, value_exactly, object_exactly}
use Rattle.op_base.proofs.Texts.{object_from_text}
use Rattle.op_base.proofs.laws.names_are_exactly_what_is_read.Goals as goal

pub returns : goal.returns
returns c = record { keys = key_exactly; values = value_exactly; objects = object_exactly; texts = object_from_text }
