use Rattle.live_run.proofs.Ended.{workers_have_run}
use Rattle.live_run.proofs.Settled.{settled_is_run}
use Rattle.live_run.proofs.laws.what_workers_did_is_a_run.Goals as goal

pub returns-clause-run : goal.returns-clause-run
returns-clause-run c = workers_have_run

pub returns-clause-settled : goal.returns-clause-settled
returns-clause-settled c = settled_is_run
