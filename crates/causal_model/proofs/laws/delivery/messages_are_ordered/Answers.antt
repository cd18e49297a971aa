use Rattle.causal_model.proofs.Delivery.Orders.{never_before_itself, order_is_transitive, order_is_asymmetric, order_goes_forward}
use Rattle.causal_model.proofs.laws.delivery.messages_are_ordered.Goals as goal

pub returns-clause-irreflexive : goal.returns-clause-irreflexive
returns-clause-irreflexive c = never_before_itself

pub returns-clause-transitive : goal.returns-clause-transitive
returns-clause-transitive c = order_is_transitive

pub returns-clause-asymmetric : goal.returns-clause-asymmetric
returns-clause-asymmetric c = order_is_asymmetric

pub returns-clause-forward : goal.returns-clause-forward
returns-clause-forward c = order_goes_forward
