use Rattle.std.proofs.Common.{◌-◌, ◌<◌, take, drop, sym, ◌∙◌, arith}
use Rattle.std.proofs.lemmas.List.{same_lists, length-take, length-drop, get_or-take, get_or-drop}
use Rattle.tag_window.proofs.block.move_to_front.Goals as goal

pub returns-clause-items : goal.returns-clause-items
returns-clause-items c =
    let old = c.args.places.now.items in
    let now = c.loop-i.places.items in
    let start = c.args.start in
    let held = c.len.result - start in
    let all = length-take held now in
    c.truncate.ensures.items
    ∙ same_lists (take held now) (drop start old) (omega (arith, all, length-drop start old, c.loop-i.invariant.same, c.len.ensures, c.args.places.now.ok.0)) (λ k d l.
    let inside : k < held = omega (arith, l, all) in
    get_or-take held now k d inside ∙ c.loop-i.invariant.moved k d (omega (arith, inside, c.loop-i-test.false)) ∙ sym (get_or-drop start old k d))
