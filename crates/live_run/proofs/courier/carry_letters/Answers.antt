use Rattle.live_run.proofs.Couriers.{begins_done}
use Rattle.live_run.proofs.courier.carry_letters.Goals as goal

pub loop-init : goal.loop-init
loop-init g c = begins_done c.args.node.now c.args.mailboxes.now c.args.fresh c.requires.fresh
