use Rattle.std.proofs.Common.{refl}
use Rattle.causal_model.proofs.Lists.KeptOfOneMore.{regroup_keeps_lists}
use Rattle.causal_model.proofs.laws.lists.lists_stay_over_epochs.Goals as goal

pub returns-clause-none : goal.returns-clause-none
returns-clause-none c = λ n me object. refl

pub returns-clause-regroup : goal.returns-clause-regroup
returns-clause-regroup c = regroup_keeps_lists
