use Rattle.causal_model.proofs.Delivery.Numbered.{unstable_are_numbered, stable_is_counted, found_by_number, next_follows_unstable}
use Rattle.causal_model.proofs.laws.delivery.unstable_messages_are_numbered.Goals as goal

pub returns-clause-numbered : goal.returns-clause-numbered
returns-clause-numbered c = unstable_are_numbered

pub returns-clause-counted : goal.returns-clause-counted
returns-clause-counted c = stable_is_counted

pub returns-clause-found : goal.returns-clause-found
returns-clause-found c = found_by_number

pub returns-clause-next : goal.returns-clause-next
returns-clause-next c = next_follows_unstable
