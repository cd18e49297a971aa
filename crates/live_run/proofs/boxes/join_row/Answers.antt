use Rattle.std.proofs.Common.{ℕ, suc, rules, ◌+◌, ◌≡◌, ◌<◌, ◌≤◌, ap, drop, length, subst, sym, ◌∙◌, arith}
use Rattle.std.specs.Vec.Iter.{into_iter_items}
use Rattle.live_run.specs.Meeting.{HaveJoined}
use Rattle.live_run.proofs.ClosingAll.{drop_next, drop_none}
use Rattle.live_run.proofs.Mailing.{joined_more}
use Rattle.live_run.proofs.boxes.join_row.Goals as goal

pub join-requires-clause-other : goal.join-requires-clause-other
join-requires-clause-other c =
    let x = c.loop-mail.x in
    let next = drop_next x c.args.row.items c.in-Some.mail (into_iter_items c.next.new.self) (sym c.in-Some.ensures.steps.0 ∙ c.loop-mail.invariant.left) in
    let inside : x < length c.args.mailboxes.now = omega (arith, next.0, c.requires.row_of_each) in
    ap (λ m. m.pass.table_id) (sym (next.1 c.in-Some.mail)) ∙ c.requires.row_of x c.index-mailboxes-x.result c.in-Some.mail inside
    ∙ ap (λ b. b.queue.table.shared.table_id) (sym c.index-mailboxes-x.is)

pub loop-mail-preserved : goal.loop-mail-preserved
loop-mail-preserved c =
    let x = c.loop-mail.x in
    let next = drop_next x c.args.row.items c.in-Some.mail (into_iter_items c.next.new.self) (sym c.in-Some.ensures.steps.0 ∙ c.loop-mail.invariant.left) in
    record {
      inside = omega (arith, next.0);
      left = (let one : suc x ≡ x + 1 = omega arith in next.2 ∙ ap (λ (k : ℕ). drop k c.args.row.items) one);
      len = (let was = c.loop-mail.invariant.len in grind (rules, arith));
      joined = joined_more c.args.firsts.now c.loop-mail.firsts c.args.row.items x c.index-firsts-x.result c.join.new.first c.in-Some.mail
          (omega (arith, next.0, c.requires.row_of_each, c.requires.of_each)) c.loop-mail.invariant.joined next.1
          (record { of = c.join.ensures.of; seen_is = c.join.ensures.joined; mine = c.join.ensures.mine; theirs = c.join.ensures.theirs });
    }

pub returns : goal.returns
returns c =
    let none : length (into_iter_items c.loop-mail.mail-iterator) ≡ 0 = omega (arith, c.in-None.ensures.steps.0, c.loop-mail.invariant.len) in
    let past : length c.args.row.items ≤ c.loop-mail.x = drop_none c.loop-mail.x c.args.row.items (into_iter_items c.loop-mail.mail-iterator) c.loop-mail.invariant.left none in
    let all : c.loop-mail.x ≡ length c.args.row.items = omega (arith, past, c.loop-mail.invariant.inside) in
    subst (λ i. HaveJoined i c.args.firsts.now c.args.row.items c.loop-mail.firsts) all c.loop-mail.invariant.joined
