use Rattle.stability_matrix.proofs.Renewals.{AreRenewed}
use Rattle.stability_matrix.proofs.columns.set_row.Given as goal

abbrev pub invariant-loop-x : goal.invariant-loop-x
invariant-loop-x l = AreRenewed l.rows l.before l.least l.x
