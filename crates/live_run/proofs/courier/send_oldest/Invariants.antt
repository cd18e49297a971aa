use Rattle.std.proofs.Common.{All}
use Rattle.live_run.specs.Couriers.{IsToPost}
use Rattle.live_run.specs.Workers.{IsCourierDone}
use Rattle.replica_lock.specs.Turns.{notes_in}
use Rattle.live_run.proofs.courier.send_oldest.Given as goal

abbrev pub invariant-loop-message : goal.invariant-loop-message
invariant-loop-message g l = IsCourierDone l.node l.mailboxes l.round.done × All (IsToPost l.courier.n (notes_in l.round.done.pass.seen)) l.message-items
