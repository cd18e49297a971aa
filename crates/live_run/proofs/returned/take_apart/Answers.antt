use Rattle.std.proofs.Common.{◌≡◌, ℕ, suc, ◌+◌, ◌≤◌, drop, length, rules, subst, sym, ◌∙◌, ap, arith}
use Rattle.std.specs.Vec.Iter.{into_iter_items}
use Rattle.live_run.proofs.ClosingAll.{drop_next, drop_none}
use Rattle.live_run.proofs.Returns.{Have, put_more, returned_more, returned_none}
use Rattle.live_run.proofs.returned.take_apart.Goals as goal

pub loop-done-init : goal.loop-done-init
loop-done-init c = record {
  inside = search rules;
  left = search rules;
  len = search rules;
  have = λ nodes mailboxes lines w clients locks are. returned_none nodes mailboxes lines w clients locks (record { told = c.new.result; rows = c.new-2.result; backs = c.in_ok-with_capacity.field-0 }) (search rules) (search rules) (search rules);
}

pub loop-done-preserved : goal.loop-done-preserved
loop-done-preserved c =
    let i = length c.loop-done.returned.backs.items in
    let next = drop_next i c.args.results.items c.in-Some.done (into_iter_items c.next.new.self) (sym c.in-Some.ensures.steps.0 ∙ c.loop-done.invariant.left) in
    let more : length c.put_done.new.returned.backs.items ≡ i + 1 = put_more c.in-Some.done c.loop-done.returned c.put_done.new.returned c.in_ok-put_done.ensures in
    record {
      inside = omega (arith, more, next.0);
      left = (let one : suc i ≡ length c.put_done.new.returned.backs.items = omega (arith, more) in next.2 ∙ ap (λ (k : ℕ). drop k c.args.results.items) one);
      len = (let was = c.loop-done.invariant.len in grind (rules, arith));
      have = λ nodes mailboxes lines w clients locks are.
          subst (λ k. Have nodes mailboxes lines w clients k c.put_done.new.returned) (sym more)
          (returned_more nodes mailboxes lines w clients locks c.args.results.items are i c.loop-done.returned c.put_done.new.returned (c.loop-done.invariant.have nodes mailboxes lines w clients locks are) next.0 c.in-Some.done c.in-Some.done (next.1 c.in-Some.done) c.in_ok-put_done.ensures);
    }

pub returns : goal.returns
returns c = λ nodes mailboxes lines w clients locks are.
    let none : length (into_iter_items c.loop-done.done-iterator) ≡ 0 = omega (arith, c.in-None.ensures.steps.0, c.loop-done.invariant.len) in
    let past : length c.args.results.items ≤ length c.loop-done.returned.backs.items = drop_none (length c.loop-done.returned.backs.items) c.args.results.items (into_iter_items c.loop-done.done-iterator) c.loop-done.invariant.left none in
    let all : length c.loop-done.returned.backs.items ≡ length c.args.results.items = omega (arith, past, c.loop-done.invariant.inside) in
    subst (λ i. Have nodes mailboxes lines w clients i c.loop-done.returned) all (c.loop-done.invariant.have nodes mailboxes lines w clients locks are)
