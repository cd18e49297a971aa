use Rattle.std.proofs.Common.{◌-◌, ◌++◌, length, take, drop, ap, ◌∙◌, arith, length-drop}
use Rattle.std.proofs.lemmas.List.{nil_from_length, take_all}
use Rattle.stable_state.proofs.chunks.halve.Goals as goal

pub returns-clause-upper : goal.returns-clause-upper
returns-clause-upper c =
    let list = c.args.list.now.items in
    c.in-Ok.ensures.items
    ∙ ap (λ xs. xs ++ take (length c.deref.result.now - 128) (drop 128 c.deref.result.now)) (nil_from_length c.args.upper.now.items (omega (arith, c.requires.empty, c.args.upper.now.ok.0)))
    ∙ ap (λ xs. take (length xs - 128) (drop 128 xs)) c.deref.ensures.value
    ∙ take_all (length list - 128) (drop 128 list) (omega (arith, length-drop 128 list))
