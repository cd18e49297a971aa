use Rattle.counter_types.proofs.Sums.{settled_is_in_range}
use Rattle.counter_types.proofs.laws.sums_of_histories_are_in_range.Goals as goal

pub returns : goal.returns
returns c = settled_is_in_range
