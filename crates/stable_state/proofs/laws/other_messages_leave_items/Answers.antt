use Rattle.std.proofs.Common.{sym, ap}
use Rattle.causal_model.specs.CellSteps.{cell_uncovered}
use Rattle.causal_model.specs.Items.{cell_in}
use Rattle.stable_state.proofs.Moves.{covered_is_absorbed, all_are_moved, not_applied}
use Rattle.stable_state.proofs.laws.other_messages_leave_items.Goals as goal

pub returns-clause-noop : goal.returns-clause-noop
returns-clause-noop c = λ h m s is of. covered_is_absorbed h m s s of (λ object value. sym (ap (λ o. cell_uncovered object value o (cell_in s.items object value)) is))

pub returns-clause-other : goal.returns-clause-other
returns-clause-other c = λ h m s other of. all_are_moved h m s of (not_applied m.op other)
