use Rattle.live_run.proofs.Meetings.{what_was_met_was_sent}
use Rattle.live_run.proofs.Rolls.{posted_was_sent}
use Rattle.live_run.proofs.laws.what_was_posted_was_sent.Goals as goal

pub returns-clause-posted : goal.returns-clause-posted
returns-clause-posted c = posted_was_sent

pub returns-clause-met : goal.returns-clause-met
returns-clause-met c = what_was_met_was_sent
