use Rattle.causal_model.proofs.Cells.MovedSums.{moved_sums_are_bounded}
use Rattle.causal_model.proofs.Cells.Sums.{sums_are_bounded}
use Rattle.causal_model.proofs.laws.answers.sums_are_bounded.Goals as goal

pub returns-clause-events : goal.returns-clause-events
returns-clause-events c = sums_are_bounded

pub returns-clause-bounded : goal.returns-clause-bounded
returns-clause-bounded c = moved_sums_are_bounded
