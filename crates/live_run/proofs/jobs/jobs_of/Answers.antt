use Rattle.std.proofs.Common.{arith}
use Rattle.live_run.specs.Inputs.{commands_in}
use Rattle.live_run.proofs.jobs.jobs_of.Goals as goal

pub put_couriers-requires-clause-clients : goal.put_couriers-requires-clause-clients
put_couriers-requires-clause-clients c =
    let are = c.in_ok-put_clients.ensures.jobs c.args.mailboxes.now in
    omega (arith, are.all, c.ranges.clients.fits)

pub returns-clause-jobs : goal.returns-clause-jobs
returns-clause-jobs c = c.in_ok-put_couriers.ensures.jobs (commands_in c.args.lines.now) c.args.clients (c.in_ok-put_clients.ensures.jobs c.args.mailboxes.now)
