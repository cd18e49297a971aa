use Rattle.stability_matrix.specs.Rows.{column_of}
use Rattle.stability_matrix.proofs.Minimums.{IsLeastSoFar}
use Rattle.stability_matrix.proofs.columns.least_in.Given as goal

abbrev pub invariant-loop-row : goal.invariant-loop-row
invariant-loop-row l = IsLeastSoFar (column_of l.rows l.x) l.least l.row-index
