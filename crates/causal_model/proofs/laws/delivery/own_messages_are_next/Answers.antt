use Rattle.causal_model.proofs.Delivery.Limits.{own_message_is_carried}
use Rattle.causal_model.proofs.Delivery.Own.{own_message_is_next}
use Rattle.causal_model.proofs.laws.delivery.own_messages_are_next.Goals as goal

pub returns-clause-next : goal.returns-clause-next
returns-clause-next c = own_message_is_next

pub returns-clause-carried : goal.returns-clause-carried
returns-clause-carried c = own_message_is_carried
