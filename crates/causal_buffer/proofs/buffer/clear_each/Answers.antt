use Rattle.std.proofs.Common.{◌<◌, length, get_or, set, sym, subst, ◌∙◌, inl, inr, arith}
use Rattle.std.proofs.lemmas.Bool.{cases_eq}
use Rattle.std.proofs.lemmas.List.{get_or_default, get_or-set_same, get_or-set_other, length-set}
use Rattle.causal_buffer.specs.Queue.{IsEmptied}
use Rattle.causal_buffer.specs.declared.queue.Queue.{Queue}
use Rattle.causal_buffer.proofs.buffer.clear_each.Goals as goal

pub loop-member-preserved : goal.loop-member-preserved
loop-member-preserved c =
    let queues = c.loop-member.queues.items in
    let was = c.args.queues.now.items in
    let at = c.loop-member.member in
    let cleared : Queue = c.clear.new.self in
    let inv = c.loop-member.invariant in
    let inside : at < length queues = omega (arith, inv.same, c.loop-member-test.true, c.len-member-end.ensures) in
    record {
      same = length-set queues at cleared ∙ inv.same;
      empty = λ k q l. elim (cases_eq k at) [
        | inl e ↦
            let before = c.index_mut.ensures.value ∙ get_or_default queues at c.index_mut.result.now q inside ∙ inv.ahead at q (omega arith) in
            subst (λ i. IsEmptied (get_or was i q) (get_or (set queues at cleared) i q)) (sym e)
            (subst (IsEmptied (get_or was at q)) (sym (get_or-set_same queues at cleared q inside)) (subst (λ o. IsEmptied o cleared) before c.clear.ensures))
        | inr ne ↦ subst (IsEmptied (get_or was k q)) (sym (get_or-set_other queues at k cleared q ne)) (inv.empty k q (omega (arith, l, ne)))
      ];
      ahead = λ k q l. get_or-set_other queues at k cleared q (λ e. omega (arith, l, e)) ∙ inv.ahead k q (omega (arith, l));
    }
