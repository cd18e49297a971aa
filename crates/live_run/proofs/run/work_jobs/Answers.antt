use Rattle.std.proofs.Common.{◌≡◌, length, map, rules, subst}
use Rattle.std.specs.Prelude.{IfOk}
use Rattle.live_run.specs.Returned.{AreReturned}
use Rattle.live_run.proofs.Running.{are_done}
use Rattle.live_run.proofs.run.work_jobs.Goals as goal

pub returns : goal.returns
returns g c = λ w locks.
    let results : length c.in_ok-results.results.items ≡ length c.args.jobs.items = search rules in
    let done = are_done c.args.nodes.now c.args.mailboxes.now c.args.lines.now w c.args.plan.now.clients c.args.jobs.items c.requires.jobs c.in_ok-results.results.items results (λ i d e l. c.in_ok-results.ensures.each i d e (search (rules, l))) in
    subst (λ i. IfOk c.take_apart.result (λ r. AreReturned c.args.nodes.now c.args.mailboxes.now c.args.lines.now w c.args.plan.now.clients i (map (λ ts. ts.items) r.told.items) (map (λ row. row.items) r.rows.items) r.backs.items)) done.all
    (c.take_apart.ensures c.args.nodes.now c.args.mailboxes.now c.args.lines.now w c.args.plan.now.clients locks done)
