use Rattle.std.proofs.Common.{◌≡◌, ◌+◌, ◌++◌, ◌∷◌, [], rules, refl, subst, sym}
use Rattle.live_run.specs.Opening.{AreJobs, AreOpened, IsSplitAt}
use Rattle.live_run.specs.Posting.{AreMails}
use Rattle.live_run.specs.declared.told.CourierDone.{CourierDone}
use Rattle.live_run.specs.declared.workers.Job.{Job}
use Rattle.live_run.specs.declared.workers.Job.TheVariants as job
use Rattle.live_run.proofs.Working.{courier_job, courier_more}
use Rattle.live_run.proofs.jobs.put_courier.Goals as goal

pub returns-clause-jobs : goal.returns-clause-jobs
returns-clause-jobs c = λ commands clients are.
    let fresh : CourierDone = record { pass = c.split_at-pass.result; mails = c.in_ok-mails.mails } in
    let split : IsSplitAt c.args.nodes.now c.args.me fresh.pass = search rules in
    let j : Job = job.Courier c.args.me fresh in
    let now : c.push.new.self.items ≡ c.args.jobs.now.items ++ j ∷ [] = search rules in
    let mails : AreMails (c.args.me + 1) [] c.args.mailboxes.now fresh.mails.items = c.in_ok-mails.ensures.mails c.args.me c.requires.firsts in
    subst (AreJobs c.args.nodes.now c.args.mailboxes.now commands clients (c.args.me + 1)) (sym now)
    (courier_more c.args.nodes.now c.args.mailboxes.now commands clients c.args.me c.args.jobs.now.items j are
    (courier_job c.args.nodes.now c.requires.locks.0 c.requires.locks.1 c.requires.few c.args.mailboxes.now c.args.me fresh c.requires.member c.requires.mailboxes split mails) refl)

pub returns-clause-opened : goal.returns-clause-opened
returns-clause-opened c =
    let fresh : CourierDone = record { pass = c.split_at-pass.result; mails = c.in_ok-mails.mails } in
    let j : Job = job.Courier c.args.me fresh in
    let now : c.push.new.self.items ≡ c.args.jobs.now.items ++ j ∷ [] = search rules in
    let here : c.args.me ≡ c.from.result = search rules in
    subst (AreOpened c.args.nodes.now c.split_at-pass.new.openers) (sym now) (c.split_at-pass.ensures.opened c.args.jobs.now.items j c.requires.opened here)

pub returns-clause-firsts : goal.returns-clause-firsts
returns-clause-firsts c = c.in_ok-mails.ensures.firsts c.args.me c.requires.firsts
