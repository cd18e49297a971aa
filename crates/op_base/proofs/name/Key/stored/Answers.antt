use Rattle.std.proofs.Common.{◌++◌, drop, length, replicate, ap}
use Rattle.op_base.proofs.Padded.{text_stored}
use Rattle.op_base.proofs.name.Key.stored.Goals as goal

pub invariant_of-result : goal.invariant_of-result
invariant_of-result c = text_stored c.args.text.now _ c.requires (ap (λ l. l ++ drop (length c.args.text.now) (replicate 32 0)) c.copy_from_slice.ensures.after)
