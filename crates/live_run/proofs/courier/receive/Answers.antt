use Rattle.live_run.proofs.Couriers.{received}
use Rattle.live_run.proofs.courier.receive.Goals as goal

pub returns-in-NoMemory : goal.returns-in-NoMemory
returns-in-NoMemory g c = record {
  done = received c.args.node.now c.args.mailboxes.now c.args.round.now.done c.requires.done c.receive-turn.new.pass c.receive-turn.result.place c.args.letter.message c.receive-turn.result.answer c.requires.posted c.receive-turn.ensures.call;
}

pub returns : goal.returns
returns g c = record {
  done = received c.args.node.now c.args.mailboxes.now c.args.round.now.done c.requires.done c.receive-turn.new.pass c.receive-turn.result.place c.args.letter.message c.receive-turn.result.answer c.requires.posted c.receive-turn.ensures.call;
}
