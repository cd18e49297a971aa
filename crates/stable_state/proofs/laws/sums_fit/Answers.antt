use Rattle.std.proofs.Common.{◌+◌, length}
use Rattle.causal_model.specs.Acts.{value_of}
use Rattle.causal_model.specs.CellSteps.{cell_absorbed, cell_moved}
use Rattle.causal_model.specs.Log.{stripped_of, message_of}
use Rattle.causal_model.proofs.Cells.MovedSums.{moved_sums_are_bounded}
use Rattle.stable_state.proofs.Moves.{absorbed_more, moved_at_once, sum_fits}
use Rattle.stable_state.proofs.laws.sums_fit.Goals as goal

pub returns-clause-absorbed : goal.returns-clause-absorbed
returns-clause-absorbed c = λ w limit h m k entry s t fits most stripped of.
    let u = entry.update in
    let object = u.object in
    let value = value_of u.act in
    sum_fits s.items u (cell_absorbed h m k object value) (of.cells object value) (cell_absorbed h m (k + 1) object value) (absorbed_more h m object value k (message_of entry) stripped)
    ((moved_sums_are_bounded w limit h m object value t fits most).0 (k + 1))

pub returns-clause-applied : goal.returns-clause-applied
returns-clause-applied c = λ w limit h m u s t fits most is kind of.
    let object = u.object in
    let value = value_of u.act in
    sum_fits s.items u (cell_absorbed h m (length (stripped_of h m)) object value) (of.cells object value) (cell_moved h m object value) (moved_at_once h m object value u is kind)
    (moved_sums_are_bounded w limit h m object value t fits most).1
