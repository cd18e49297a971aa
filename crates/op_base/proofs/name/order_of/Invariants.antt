use Rattle.std.proofs.Common.{◌*◌}
use Rattle.op_base.proofs.Padded.{IsOrderFrom}
use Rattle.op_base.proofs.name.order_of.Given as goal

abbrev pub invariant-loop-i : goal.invariant-loop-i
invariant-loop-i l = IsOrderFrom (8 * l.i) l.bytes l.others
