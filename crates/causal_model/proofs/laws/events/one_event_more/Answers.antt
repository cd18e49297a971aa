use Rattle.causal_model.proofs.Events.Events.{uncovered_events_of_one_more, present_is_covered_in_present}
use Rattle.causal_model.proofs.Events.EventsOfOneMore.{has_settled_of_one_more, has_pending_of_one_more, counter_sum_of_one_more, rcounter_sum_of_one_more}
use Rattle.causal_model.proofs.laws.events.one_event_more.Goals as goal

pub returns-clause-uncovered : goal.returns-clause-uncovered
returns-clause-uncovered c = uncovered_events_of_one_more

pub returns-clause-present : goal.returns-clause-present
returns-clause-present c = present_is_covered_in_present

pub returns-clause-settled : goal.returns-clause-settled
returns-clause-settled c = has_settled_of_one_more

pub returns-clause-pending : goal.returns-clause-pending
returns-clause-pending c = has_pending_of_one_more

pub returns-clause-counter : goal.returns-clause-counter
returns-clause-counter c = counter_sum_of_one_more

pub returns-clause-rcounter : goal.returns-clause-rcounter
returns-clause-rcounter c = rcounter_sum_of_one_more
