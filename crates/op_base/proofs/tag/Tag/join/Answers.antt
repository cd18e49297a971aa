use Rattle.std.proofs.Common.{arith}
use Rattle.op_base.proofs.Timestamps.{join_by}
use Rattle.op_base.proofs.tag.Tag.join.Goals as goal

pub returns : goal.returns
returns c =
    join_by c.loop-x.joined c.args.self.now c.args.other.now c.loop-x.invariant.0 c.requires (λ k h. c.loop-x.invariant.1 k (omega arith))
