use Rattle.stable_state.proofs.Ranks.{all_zeros}
use Rattle.stable_state.proofs.rank.zeros.Goals as goal

pub returns-clause-each : goal.returns-clause-each
returns-clause-each c = all_zeros 66
