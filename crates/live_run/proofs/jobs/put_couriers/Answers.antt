use Rattle.std.proofs.Common.{◌≡◌, length, rules, subst, arith}
use Rattle.live_run.specs.Opening.{AreJobs}
use Rattle.live_run.proofs.jobs.put_couriers.Goals as goal

pub loop-me-preserved : goal.loop-me-preserved
loop-me-preserved c = record {
  count = omega (arith, c.in_ok-put_courier.ensures.more, c.loop-me.invariant.count);
  opened = c.in_ok-put_courier.ensures.opened;
  firsts = c.in_ok-put_courier.ensures.firsts;
  jobs = λ commands clients are. c.in_ok-put_courier.ensures.jobs commands clients (c.loop-me.invariant.jobs commands clients are);
}

pub returns-clause-jobs : goal.returns-clause-jobs
returns-clause-jobs c = λ commands clients are.
    let all : c.loop-me.me ≡ length c.args.nodes.now = search rules in
    subst (λ k. AreJobs c.args.nodes.now c.args.mailboxes.now commands clients k c.loop-me.jobs.items) all (c.loop-me.invariant.jobs commands clients are)
