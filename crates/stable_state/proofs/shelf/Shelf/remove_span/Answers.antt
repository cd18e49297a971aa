use Rattle.std.proofs.Common.{◌≡◌, ◌++◌, take, drop, sym, ap, ◌∙◌, arith}
use Rattle.std.proofs.lemmas.List.{take-append-drop}
use Rattle.stable_state.proofs.shelf.Shelf.remove_span.Goals as goal

pub returns-else-from-to-clause-items : goal.returns-else-from-to-clause-items
returns-else-from-to-clause-items c =
    let items = c.args.self.now.items in
    let none : c.args.from.place ≡ c.args.to = omega (arith, c.requires.ordered, c.if-from-to.false) in
    ap (λ shelved. shelved.items) c.self.view_is ∙ sym (take-append-drop c.args.from.place items) ∙ ap (λ k. take c.args.from.place items ++ drop k items) none
