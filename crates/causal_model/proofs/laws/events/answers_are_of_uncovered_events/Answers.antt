use Rattle.causal_model.proofs.Answers.Uncovered.{has_by_uncovered_events, rcounter_by_uncovered, answers_are_of_uncovered}
use Rattle.causal_model.proofs.laws.events.answers_are_of_uncovered_events.Goals as goal

pub returns-clause-has : goal.returns-clause-has
returns-clause-has c = has_by_uncovered_events

pub returns-clause-sum : goal.returns-clause-sum
returns-clause-sum c = rcounter_by_uncovered

pub returns-clause-answer : goal.returns-clause-answer
returns-clause-answer c = answers_are_of_uncovered
