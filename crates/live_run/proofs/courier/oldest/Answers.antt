use Rattle.live_run.proofs.Couriers.{copied, copies_are_to_post}
use Rattle.live_run.proofs.courier.oldest.Goals as goal

pub returns-clause-done : goal.returns-clause-done
returns-clause-done g c =
    copied c.args.node.now c.args.mailboxes.now c.args.round.now.done c.requires.done c.outbox-turn.new.pass c.outbox-turn.result.place 32 c.outbox-turn.result.answer c.outbox-turn.ensures.call

pub returns-clause-to_post : goal.returns-clause-to_post
returns-clause-to_post g c =
    copies_are_to_post c.args.node.now c.args.mailboxes.now c.args.round.now.done c.requires.done c.outbox-turn.new.pass c.outbox-turn.result.place c.args.courier.now.me c.args.courier.now.n 32
    c.outbox-turn.result.answer c.requires.of c.outbox-turn.ensures.call
