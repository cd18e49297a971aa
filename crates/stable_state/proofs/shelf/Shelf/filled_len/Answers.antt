use Rattle.std.proofs.Common.{◌≡◌, ◌+◌, length, ap, arith}
use Rattle.std.proofs.lemmas.List.{length-map}
use Rattle.stable_state.specs.Filled.{filled_of}
use Rattle.stable_state.specs.Slots.{item_in, items_in}
use Rattle.stable_state.proofs.Filled.{filled_and_empties}
use Rattle.stable_state.proofs.shelf.Shelf.filled_len.Goals as goal

-- all items are filled or not
parts : (c : goal.After-len) → length (filled_of c.args.self.now.items) + c.self.inside.empties ≡ c.len.result
parts c =
    let s = c.self.inside in
    let items = items_in s.slots s.order.items in
    omega (arith, filled_and_empties items, c.self.invariant.counted, length-map s.order.items (item_in s.slots), c.len.ensures, ap (λ shelved. length (filled_of shelved.items)) c.self.view_is)

pub overflow_sub-result : goal.overflow_sub-result
overflow_sub-result c = omega (arith, parts c)

pub returns : goal.returns
returns c = omega (arith, parts c)
