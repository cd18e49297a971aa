use Rattle.std.proofs.Common.{All, arith, sym, subst}
use Rattle.live_run.specs.Couriers.{IsToPost}
use Rattle.replica_lock.specs.Held.{Held}
use Rattle.replica_lock.specs.Turns.{notes_in}
use Rattle.live_run.proofs.courier.send_oldest.Goals as goal

pub send_message-requires-clause-to_post : goal.send_message-requires-clause-to_post
send_message-requires-clause-to_post g c =
    subst (IsToPost c.args.courier.now.n (notes_in c.loop-message.round.done.pass.seen)) (sym c.message-item.is)
    (c.loop-message.invariant.1 c.loop-message.message-index c.message-item.result (omega (arith, c.loop-message-test.true, c.loop-message.auto.message-index-end)))

pub loop-message-preserved : goal.loop-message-preserved
loop-message-preserved g c = (
  c.send_message.ensures.done,
  subst (λ (h : Held). All (IsToPost c.args.courier.now.n (notes_in h.seen)) c.as_slice-message-items.result.now) (sym c.send_message.ensures.pass) c.loop-message.invariant.1,
)
