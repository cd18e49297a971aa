use Rattle.std.proofs.Common.{sym, ◌∙◌}
use Rattle.std.specs.Option.{option_copied}
use Rattle.stable_state.proofs.Views.{cell_at_gap, cell_inside, cell_outside, in_range, out_of_range}
use Rattle.stable_state.proofs.view.ItemSpanItemView.cell.Goals as goal

pub returns-in_default : goal.returns-in_default
returns-in_default c =
    let span = c.args.self.now in
    sym (cell_at_gap c.args.object.now (option_copied c.args.value) span.shelf.now.items span.from span.to span.ordered span.within c.in_default.field-0.spot.place c.in_default.ensures.absent)

pub returns-then-contains : goal.returns-then-contains
returns-then-contains c =
    let span = c.args.self.now in
    let place = c.in-Ok.spot.place in
    let inside = in_range span.from place span.to (sym c.contains.ensures.value ∙ c.if-contains.true) in
    sym (cell_inside c.args.object.now (option_copied c.args.value) span.shelf.now.items span.from span.to span.ordered span.within span.rise place c.in-Ok.ensures.found c.at_near.result.now c.at_near.ensures inside.0 inside.1)

pub returns-else-contains : goal.returns-else-contains
returns-else-contains c =
    let span = c.args.self.now in
    let place = c.in-Ok.spot.place in
    let outside = out_of_range span.from place span.to (sym c.contains.ensures.value ∙ c.if-contains.false) in
    sym (cell_outside c.args.object.now (option_copied c.args.value) span.shelf.now.items span.from span.to span.ordered span.within span.rise place c.in-Ok.ensures.found c.in-Ok.ensures.within outside)
