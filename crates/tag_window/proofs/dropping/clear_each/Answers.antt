use Rattle.std.proofs.Common.{◌<◌, [], length, get_or, set, sym, ap, ◌∙◌, inl, inr, arith}
use Rattle.std.proofs.lemmas.Bool.{cases_eq}
use Rattle.std.proofs.lemmas.List.{get_or_default, get_or-set_same, get_or-set_other, length-set}
use Rattle.tag_window.specs.Queue.{Line}
use Rattle.tag_window.proofs.dropping.clear_each.Goals as goal

abbrev emptied : Line → Line
emptied line = record line { held = [] }

pub loop-x-preserved : goal.loop-x-preserved
loop-x-preserved c =
    let lines = c.loop-x.queues.items in
    let at = c.loop-x.x in
    let cleared : Line = c.clear.new.self in
    let inv = c.loop-x.invariant in
    let inside : at < length lines = omega (arith, inv.same, c.loop-x-test.true, c.len-x-end.ensures) in
    record {
      same = length-set lines at cleared ∙ inv.same;
      empty = λ k q l. elim (cases_eq k at) [
        | inl e ↦
            ap (λ i. get_or (set lines at cleared) i q) e ∙ get_or-set_same lines at cleared q inside
            ∙ c.clear.ensures ∙ ap emptied (c.index_mut.ensures.value ∙ get_or_default lines at c.index_mut.result.now q inside ∙ inv.ahead at q (omega arith)) ∙ ap (λ i. emptied (get_or c.args.queues.now.items i q)) (sym e)
        | inr ne ↦ get_or-set_other lines at k cleared q ne ∙ inv.empty k q (omega (arith, l, ne))
      ];
      ahead = λ k q l. get_or-set_other lines at k cleared q (λ e. omega (arith, l, e)) ∙ inv.ahead k q (omega (arith, l));
    }
