use Rattle.std.proofs.Common.{◌<◌, length, get_or, ap, subst, ◌∙◌, arith}
use Rattle.std.specs.Option.{option_copied}
use Rattle.std.proofs.lemmas.List.{length-map}
use Rattle.std.proofs.lemmas.Option.{slice_get-get_or, slice_get_within}
use Rattle.causal_model.specs.Items.{zero_cell, cell_in, Rise}
use Rattle.stable_state.specs.Places.{with_cell}
use Rattle.stable_state.specs.Shelf.{Shelved}
use Rattle.stable_state.specs.Slots.{no_item, item_in}
use Rattle.stable_state.proofs.Changes.{cell_rewritten_at, cell_of_none}
use Rattle.stable_state.proofs.shelf.Shelf.empty.Goals as goal

pub returns-in-Some-clause-cells : goal.returns-in-Some-clause-cells
returns-in-Some-clause-cells c = λ other other_value.
    let items = c.args.self.now.items in
    let own = c.in-Some.ensures in
    let rise = subst Rise (ap (λ s. s.items) c.self.view_is) c.self.invariant.ordered.rise in
    let within : own.place < length items = omega (
      arith,
      slice_get_within c.args.self.now.slots own.place c.in-Some.slot own.at,
      ap (λ s. length s.slots) c.self.view_is,
      ap (λ s. length s.items) c.self.view_is,
      length-map c.self.inside.order.items (item_in c.self.inside.slots),
    ) in
    ap (λ xs. cell_in xs other other_value) (c.write.ensures.items own.place own.at)
    ∙ cell_rewritten_at c.args.object.now (option_copied c.args.value) items own.place (get_or items own.place no_item) rise own.found (slice_get-get_or items own.place no_item within) zero_cell other other_value

pub returns-in-Ok-clause-cells : goal.returns-in-Ok-clause-cells
returns-in-Ok-clause-cells c = λ other other_value.
    let items = c.args.self.now.items in
    let place = c.in-Ok.spot.place in
    let rise = subst Rise (ap (λ s. s.items) c.self.view_is) c.self.invariant.ordered.rise in
    ap (λ xs. cell_in xs other other_value) (c.set_cell.ensures.items ∙ ap (λ (s : Shelved). with_cell place zero_cell s.items) c.self.view_is)
    ∙ cell_rewritten_at c.args.object.now (option_copied c.args.value) items place (get_or items place no_item) rise c.in-Ok.ensures.found (slice_get-get_or items place no_item c.in-Ok.ensures.within) zero_cell other other_value

pub returns-in-Err-clause-cells : goal.returns-in-Err-clause-cells
returns-in-Err-clause-cells c = λ other other_value.
    ap (λ (s : Shelved). cell_in s.items other other_value) c.self.view_is
    ∙ cell_of_none c.args.object.now (option_copied c.args.value) c.args.self.now.items c.in-Err.gap.spot.place c.in-Err.ensures.absent other other_value
