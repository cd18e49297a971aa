use Rattle.std.proofs.Common.{◌≡◌, [], ◌∙◌, rules, subst, arith}
use Rattle.live_run.specs.Inputs.{commands_in}
use Rattle.live_run.specs.Opening.{AreJobs}
use Rattle.live_run.proofs.Working.{no_jobs}
use Rattle.live_run.proofs.jobs.put_clients.Goals as goal

pub loop-number-init : goal.loop-number-init
loop-number-init c = record {
  count = search rules;
  opened = c.requires.opened;
  jobs = λ mailboxes. no_jobs c.args.nodes.now mailboxes (commands_in c.args.lines.now) c.args.jobs.now.items c.requires.none;
}

pub put_client-requires-clause-within : goal.put_client-requires-clause-within
put_client-requires-clause-within c = (c.args.clients, c.requires.within)

pub loop-number-preserved : goal.loop-number-preserved
loop-number-preserved c = record {
  count = (c.in_ok-put_client.ensures.jobs [] (c.loop-number.invariant.jobs [])).all ∙ omega arith;
  opened = c.in_ok-put_client.ensures.opened;
  jobs = λ mailboxes. c.in_ok-put_client.ensures.jobs mailboxes (c.loop-number.invariant.jobs mailboxes);
}

pub returns-clause-jobs : goal.returns-clause-jobs
returns-clause-jobs c = λ mailboxes.
    let all : c.loop-number.number ≡ c.args.clients = search rules in
    subst (λ k. AreJobs c.args.nodes.now mailboxes (commands_in c.args.lines.now) k 0 c.loop-number.jobs.items) all (c.loop-number.invariant.jobs mailboxes)
