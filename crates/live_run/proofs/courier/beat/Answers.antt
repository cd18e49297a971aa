use Rattle.live_run.proofs.Couriers.{beaten}
use Rattle.live_run.proofs.courier.beat.Goals as goal

pub returns-in-NoMemory : goal.returns-in-NoMemory
returns-in-NoMemory g c = record { done = beaten c.args.node.now c.args.mailboxes.now c.args.round.now.done c.requires.done c.beat-turn.new.pass c.beat-turn.result.place c.beat-turn.result.answer c.beat-turn.ensures.call }

pub returns : goal.returns
returns g c = record { done = beaten c.args.node.now c.args.mailboxes.now c.args.round.now.done c.requires.done c.beat-turn.new.pass c.beat-turn.result.place c.beat-turn.result.answer c.beat-turn.ensures.call }
