use Rattle.causal_model.proofs.Delivery.Settling.{stable_stays_stable, next_is_after_stable}
use Rattle.causal_model.proofs.laws.delivery.stable_messages_stay_behind.Goals as goal

pub returns-clause-stays : goal.returns-clause-stays
returns-clause-stays c = stable_stays_stable

pub returns-clause-behind : goal.returns-clause-behind
returns-clause-behind c = next_is_after_stable
