use Rattle.causal_model.proofs.Cells.ItemMaps.{same_cells_same_length, same_cells_same_list}
use Rattle.causal_model.proofs.laws.cells.items_with_equal_cells_are_equal.Goals as goal

pub returns-clause-length : goal.returns-clause-length
returns-clause-length c = same_cells_same_length

pub returns-clause-list : goal.returns-clause-list
returns-clause-list c = same_cells_same_list
