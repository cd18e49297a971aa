use Rattle.causal_model.proofs.Lists.Ranks.{lower_rank_before, ranks_differ}
use Rattle.causal_model.proofs.laws.lists.ranks_rise.Goals as goal

pub returns-clause-lower : goal.returns-clause-lower
returns-clause-lower c = lower_rank_before

pub returns-clause-apart : goal.returns-clause-apart
returns-clause-apart c = ranks_differ
