use Rattle.causal_model.proofs.Cells.Places.{items_are_cells, items_are_filled, items_rise}
use Rattle.causal_model.proofs.laws.cells.items_are_the_cells.Goals as goal

pub returns-clause-cells : goal.returns-clause-cells
returns-clause-cells c = items_are_cells

pub returns-clause-filled : goal.returns-clause-filled
returns-clause-filled c = items_are_filled

pub returns-clause-rise : goal.returns-clause-rise
returns-clause-rise c = items_rise
