use Rattle.std.proofs.Common.{◌≡◌, length, rules, subst}
use Rattle.live_run.specs.Opening.{AreForked}
use Rattle.live_run.proofs.Mailing.{firsts_forked, mails_forked}
use Rattle.live_run.proofs.boxes.fork_all.Goals as goal

pub returns-clause-firsts : goal.returns-clause-firsts
returns-clause-firsts c = λ k are.
    let all : c.loop-x.x ≡ length c.args.mailboxes.now = search rules in
    firsts_forked k c.args.mailboxes.now c.args.firsts.now c.loop-x.firsts c.loop-x.mails.items are (subst (λ i. AreForked i c.args.mailboxes.now c.args.firsts.now c.loop-x.firsts c.loop-x.mails.items) all c.loop-x.invariant)

pub returns-clause-mails : goal.returns-clause-mails
returns-clause-mails c = λ k are.
    let all : c.loop-x.x ≡ length c.args.mailboxes.now = search rules in
    mails_forked k c.args.mailboxes.now c.args.firsts.now c.loop-x.firsts c.loop-x.mails.items are (subst (λ i. AreForked i c.args.mailboxes.now c.args.firsts.now c.loop-x.firsts c.loop-x.mails.items) all c.loop-x.invariant)
