use Rattle.std.proofs.Common.{◌<◌, length, get_or, set, sym, ap, ◌∙◌, inl, inr, [], arith}
use Rattle.std.proofs.lemmas.Bool.{cases_eq}
use Rattle.std.proofs.lemmas.List.{get_or-set_same, get_or-set_other, length-set}
use Rattle.tag_window.specs.Queue.{Line, left_of}
use Rattle.tag_window.proofs.dropping.drop_of_each.Goals as goal

pub loop-x-preserved : goal.loop-x-preserved
loop-x-preserved c =
    let lines = c.loop-x.queues.items in
    let x = c.loop-x.x in
    let stable = c.args.stable.now in
    let inv = c.loop-x.invariant in
    let left = c.drop_of.ensures.left in
    let inside : x < length lines = omega (arith, inv.same, c.requires.entries) in
    let none : Line = record { n = 0; origin = 0; room = 0; held = [] } in
    record {
      same = ap length (left none) ∙ length-set lines x (left_of stable (get_or lines x none)) ∙ inv.same;
      gone = λ k q l. elim (cases_eq k x) [
        | inl e ↦ ap (λ ls. get_or ls k q) (left q) ∙ ap (λ i. get_or (set lines x (left_of stable (get_or lines x q))) i q) e ∙ get_or-set_same lines x (left_of stable (get_or lines x q)) q inside
            ∙ ap (left_of stable) (inv.ahead x q (omega arith)) ∙ ap (λ i. left_of stable (get_or c.args.queues.now.items i q)) (sym e)
        | inr ne ↦ ap (λ ls. get_or ls k q) (left q) ∙ get_or-set_other lines x k (left_of stable (get_or lines x q)) q ne ∙ inv.gone k q (omega (arith, l, ne))
      ];
      ahead = λ k q l. ap (λ ls. get_or ls k q) (left q) ∙ get_or-set_other lines x k (left_of stable (get_or lines x q)) q (λ e. omega (arith, l, e)) ∙ inv.ahead k q (omega (arith, l));
      firsts = c.drop_of.ensures.firsts;
    }
