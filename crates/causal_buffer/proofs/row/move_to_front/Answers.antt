use Rattle.std.proofs.Common.{◌+◌, ◌-◌, ◌<◌, ◌≢◌, length, take, drop, set, get_or, None, sym, ap, ◌∙◌, inl, inr, arith}
use Rattle.std.proofs.lemmas.Bool.{cases_eq}
use Rattle.std.proofs.lemmas.List.{same_lists, length-take, length-drop, length-set, get_or-take, get_or-drop, get_or-set_same, get_or-set_other, get_or_default}
use Rattle.causal_buffer.proofs.row.move_to_front.Goals as goal

pub loop-i-preserved : goal.loop-i-preserved
loop-i-preserved c =
    let old = c.args.block.now.items in
    let now = c.loop-i.block.items in
    let start = c.args.start in
    let i = c.loop-i.i in
    let inv = c.loop-i.invariant in
    let moved = c.move_one.ensures.items in
    let from = start + i in
    let emptied = set now from None in
    let one = get_or now from None in
    let there : from < length now = omega (arith, c.loop-i-test.true, inv.same, c.len.ensures, c.args.block.now.ok.0) in
    let first : i < length emptied = omega (arith, there, length-set now from None) in
    record {
      capacity = c.move_one.ensures.capacity ∙ inv.capacity;
      same = ap length moved ∙ length-set emptied i one ∙ length-set now from None ∙ inv.same;
      moved = λ k d l. elim (cases_eq k i) [
        | inl e ↦ ap (λ xs. get_or xs k d) moved ∙ ap (λ j. get_or (set emptied i one) j d) e ∙ get_or-set_same emptied i one d first
            ∙ get_or_default now from None d there ∙ inv.ahead from d (omega arith) ∙ ap (λ j. get_or old (start + j) d) (sym e)
        | inr ne ↦
            let apart : k ≢ from = omega (arith, l, ne) in
            ap (λ xs. get_or xs k d) moved ∙ get_or-set_other emptied i k one d ne ∙ get_or-set_other now from k None d apart ∙ inv.moved k d (omega (arith, l, ne))
      ];
      ahead = λ k d l.
          let apart : k ≢ from = omega (arith, l) in
          let behind : k ≢ i = omega (arith, l) in
          ap (λ xs. get_or xs k d) moved ∙ get_or-set_other emptied i k one d behind ∙ get_or-set_other now from k None d apart ∙ inv.ahead k d (omega (arith, l));
    }

pub returns-clause-items : goal.returns-clause-items
returns-clause-items c =
    let old = c.args.block.now.items in
    let now = c.loop-i.block.items in
    let start = c.args.start in
    let row = c.len.result - start in
    let all = length-take row now in
    c.truncate.ensures.items
    ∙ same_lists (take row now) (drop start old) (omega (arith, all, length-drop start old, c.loop-i.invariant.same, c.len.ensures, c.args.block.now.ok.0)) (λ k d l.
    let inside : k < row = omega (arith, l, all) in
    get_or-take row now k d inside ∙ c.loop-i.invariant.moved k d (omega (arith, inside, c.loop-i-test.false)) ∙ sym (get_or-drop start old k d))
