use Rattle.causal_model.proofs.Events.Events.{events_are_transitive, events_are_asymmetric, events_go_forward, events_are_apart}
use Rattle.causal_model.proofs.Delivery.Lengths.{history_is_bounded}
use Rattle.causal_model.proofs.laws.events.events_are_ordered.Goals as goal

pub returns-clause-transitive : goal.returns-clause-transitive
returns-clause-transitive c = events_are_transitive

pub returns-clause-asymmetric : goal.returns-clause-asymmetric
returns-clause-asymmetric c = events_are_asymmetric

pub returns-clause-forward : goal.returns-clause-forward
returns-clause-forward c = events_go_forward

pub returns-clause-apart : goal.returns-clause-apart
returns-clause-apart c = events_are_apart

pub returns-clause-bounded : goal.returns-clause-bounded
returns-clause-bounded c = history_is_bounded
