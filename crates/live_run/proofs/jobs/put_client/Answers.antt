use Rattle.std.proofs.Common.{◌≡◌, ◌+◌, ◌<◌, ◌++◌, ◌∷◌, [], length, rules, refl, subst, sym}
use Rattle.live_run.specs.Inputs.{commands_in, replica_of_client}
use Rattle.live_run.specs.Opening.{AreJobs, AreOpened, IsSplitAt}
use Rattle.live_run.specs.declared.workers.Job.{Job}
use Rattle.live_run.specs.declared.workers.Job.TheVariants as job
use Rattle.live_run.proofs.Working.{client_job, client_more, replica_below}
use Rattle.live_run.proofs.jobs.put_client.Goals as goal

pub split_at-pass-requires-clause-inside : goal.split_at-pass-requires-clause-inside
split_at-pass-requires-clause-inside c =
    let at_is : c.from.result ≡ replica_of_client (length c.args.nodes.now) (commands_in c.args.lines.now) c.args.number = search rules in
    subst (λ at. at < length c.args.nodes.now) (sym at_is) (replica_below (length c.args.nodes.now) c.requires.within.0 c.args.number c.args.lines.now c.requires.some c.requires.within.1)

pub returns-clause-jobs : goal.returns-clause-jobs
returns-clause-jobs c = λ mailboxes are.
    let at = c.replica_of-at.result in
    let at_is : at ≡ replica_of_client (length c.args.nodes.now) (commands_in c.args.lines.now) c.args.number = search rules in
    let inside : at < length c.args.nodes.now = subst (λ at. at < length c.args.nodes.now) (sym at_is) (replica_below (length c.args.nodes.now) c.requires.within.0 c.args.number c.args.lines.now c.requires.some c.requires.within.1) in
    let split : IsSplitAt c.args.nodes.now at c.split_at-pass.result = search rules in
    let j : Job = job.Client c.args.number at c.split_at-pass.result in
    let now : c.push.new.self.items ≡ c.args.jobs.now.items ++ j ∷ [] = search rules in
    subst (AreJobs c.args.nodes.now mailboxes (commands_in c.args.lines.now) (c.args.number + 1) 0) (sym now)
    (client_more c.args.nodes.now mailboxes (commands_in c.args.lines.now) c.args.number c.args.jobs.now.items j are
    (client_job c.args.nodes.now c.requires.locks.0 c.requires.locks.1 c.requires.few at c.split_at-pass.result inside split) (refl, at_is))

pub returns-clause-opened : goal.returns-clause-opened
returns-clause-opened c =
    let at = c.replica_of-at.result in
    let j : Job = job.Client c.args.number at c.split_at-pass.result in
    let now : c.push.new.self.items ≡ c.args.jobs.now.items ++ j ∷ [] = search rules in
    let here : at ≡ c.from.result = search rules in
    subst (AreOpened c.args.nodes.now c.split_at-pass.new.openers) (sym now) (c.split_at-pass.ensures.opened c.args.jobs.now.items j c.requires.opened here)
