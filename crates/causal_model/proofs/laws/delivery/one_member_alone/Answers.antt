use Rattle.causal_model.proofs.Delivery.Alone.{counts_alone, none_unstable_alone}
use Rattle.causal_model.proofs.laws.delivery.one_member_alone.Goals as goal

pub returns-clause-counts : goal.returns-clause-counts
returns-clause-counts c = counts_alone

pub returns-clause-unstable : goal.returns-clause-unstable
returns-clause-unstable c = none_unstable_alone
