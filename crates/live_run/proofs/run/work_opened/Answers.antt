use Rattle.std.proofs.Common.{◌≡◌, length, map, rules, subst, arith}
use Rattle.std.proofs.lemmas.List.{length-map}
use Rattle.live_run.specs.Opening.{AreFirsts}
use Rattle.live_run.proofs.Ended.{some_of}
use Rattle.live_run.proofs.Running.{are_out, are_rows, notes_at}
use Rattle.live_run.proofs.run.work_opened.Goals as goal

pub join_rows-requires-clause-firsts : goal.join_rows-requires-clause-firsts
join_rows-requires-clause-firsts g c =
    let are = c.in_ok-returned.ensures c.requires.locks.0 c.requires.locks.1 in
    let rows = c.in_ok-returned.returned.rows.items in
    let count : length c.args.nodes.now ≡ length rows = omega (arith, are.of_each, length-map rows (λ row. row.items)) in
    subst (λ k. AreFirsts k c.args.mailboxes.now c.jobs_of.new.firsts) count c.in_ok-jobs.ensures.firsts

pub join_rows-requires-clause-rows : goal.join_rows-requires-clause-rows
join_rows-requires-clause-rows g c =
    let w = c.requires.locks.0 in
    let are = c.in_ok-returned.ensures w c.requires.locks.1 in
    let r = c.in_ok-returned.returned in
    let told = map (λ ts. ts.items) r.told.items in
    let rows = map (λ row. row.items) r.rows.items in
    let back = some_of r.backs.items 0 (omega (arith, are.all, c.requires.some)) in
    (notes_at c.args.nodes.now c.args.mailboxes.now c.args.lines.now w c.args.plan.now.clients told rows r.backs.items are back, are_rows c.args.nodes.now c.args.mailboxes.now c.args.lines.now w c.args.plan.now.clients told rows r.backs.items are back)

pub returns-clause-worked : goal.returns-clause-worked
returns-clause-worked g c = λ w locks. record {
  rows = map (λ row. row.items) c.in_ok-returned.returned.rows.items;
  returned = c.in_ok-returned.ensures w locks;
  met = c.join_rows.ensures;
  firsts_of_each = search rules;
}

pub returns-clause-out : goal.returns-clause-out
returns-clause-out g c =
    let w = c.requires.locks.0 in
    let r = c.in_ok-returned.returned in
    are_out c.args.nodes.now c.args.mailboxes.now c.args.lines.now w c.args.plan.now.clients c.in_ok-jobs.jobs.items c.in_ok-jobs.ensures.jobs (map (λ ts. ts.items) r.told.items) (map (λ row. row.items) r.rows.items) r.backs.items (c.in_ok-returned.ensures w c.requires.locks.1) c.jobs_of.new.openers c.in_ok-jobs.ensures.opened

pub returns-clause-fresh : goal.returns-clause-fresh
returns-clause-fresh g c = c.in_ok-jobs.ensures.opened.none
