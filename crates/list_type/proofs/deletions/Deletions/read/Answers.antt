use Rattle.list_type.proofs.LinkedDeletions.{begins}
use Rattle.list_type.proofs.deletions.Deletions.read.Goals as goal

pub loop-k-init : goal.loop-k-init
loop-k-init c = begins c.args.self.now c.args.entries.now c.requires
