use Rattle.causal_model.proofs.Cells.MovedCells.{cell_is_moved}
use Rattle.causal_model.proofs.Cells.SettledMarks.{cell_of_one_more}
use Rattle.causal_model.proofs.laws.cells.cells_of_one_message_more.Goals as goal

pub returns-clause-cell : goal.returns-clause-cell
returns-clause-cell c = λ w h m object value t other. cell_of_one_more w h m object value t other

pub returns-clause-moved : goal.returns-clause-moved
returns-clause-moved c = cell_is_moved
