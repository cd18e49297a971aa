use Rattle.std.proofs.Common.{arith}
use Rattle.world.proofs.Nodes.{epoch_is_low}
use Rattle.world.proofs.sending.commit.Goals as goal

pub encode-requires-clause-epoch : goal.encode-requires-clause-epoch
encode-requires-clause-epoch c = omega (arith, epoch_is_low c.args.node.now)
