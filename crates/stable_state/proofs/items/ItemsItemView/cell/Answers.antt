use Rattle.std.proofs.Common.{sym}
use Rattle.std.specs.Option.{option_copied}
use Rattle.stable_state.proofs.Changes.{cell_found}
use Rattle.stable_state.proofs.Spans.{cell_of_gap}
use Rattle.stable_state.proofs.items.ItemsItemView.cell.Goals as goal

pub returns-in-Ok : goal.returns-in-Ok
returns-in-Ok c = sym (cell_found c.args.object.now (option_copied c.args.value) c.args.self.now.shelf.items c.in-Ok.spot.place c.at_near.result.now c.args.self.now.rise c.in-Ok.ensures.found c.at_near.ensures)

pub returns-in-Err : goal.returns-in-Err
returns-in-Err c = sym (cell_of_gap c.args.object.now (option_copied c.args.value) c.args.self.now.shelf.items c.in-Err.field-0.spot.place c.in-Err.ensures.absent)
