use Rattle.std.proofs.Common.{◌≡◌, ◌<◌, true, Some, length, ap, sym, subst, ◌∙◌, arith}
use Rattle.std.specs.Prelude.{slice_get}
use Rattle.std.specs.List.{HoldsAt}
use Rattle.std.proofs.lemmas.List.{length-map}
use Rattle.std.proofs.lemmas.Option.{slice_get-get_or}
use Rattle.stable_state.specs.Shelf.{Shelved}
use Rattle.stable_state.specs.Slots.{item_in}
use Rattle.stable_state.specs.Touched.{is_touched}
use Rattle.stable_state.proofs.shelf.Shelf.set_cell.Goals as goal

pub returns-clause-marked : goal.returns-clause-marked
returns-clause-marked c =
    let order = c.self.inside.order.items in
    let slot = c.at_near-slot.result in
    let within : c.args.spot.place < length order = omega (arith, c.requires.within, ap (λ shelved. length shelved.items) c.self.view_is, length-map order (item_in c.self.inside.slots)) in
    let at : slice_get order c.args.spot.place ≡ Some slot = slice_get-get_or order c.args.spot.place slot within ∙ ap Some (sym c.at_near-slot.ensures) in
    subst (λ (s : Shelved). c.args.cell.off ≡ true → HoldsAt (λ item. is_touched c.write.new.self.touched item.object item.value ≡ true) s.items c.args.spot.place) c.self.view_is (c.write.ensures.marked c.args.spot.place at)
