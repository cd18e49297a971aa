use Rattle.causal_model.proofs.Answers.ObjectParts.{has_from_parts, sum_from_parts}
use Rattle.causal_model.proofs.Answers.Parts.{uncovered_is_settled_or_pending, pending_is_logged}
use Rattle.causal_model.proofs.Answers.PartsOfKinds.{has_by_settled_and_logged}
use Rattle.causal_model.proofs.Answers.PartsOfSums.{rcounter_by_settled_and_logged}
use Rattle.causal_model.proofs.laws.answers.answers_come_from_parts.Goals as goal

pub returns-clause-uncovered : goal.returns-clause-uncovered
returns-clause-uncovered c = uncovered_is_settled_or_pending

pub returns-clause-logged : goal.returns-clause-logged
returns-clause-logged c = pending_is_logged

pub returns-clause-has : goal.returns-clause-has
returns-clause-has c = has_by_settled_and_logged

pub returns-clause-sum : goal.returns-clause-sum
returns-clause-sum c = rcounter_by_settled_and_logged

pub returns-clause-from_parts : goal.returns-clause-from_parts
returns-clause-from_parts c = λ w h object value entries items t parts. has_from_parts w h object entries items t parts value

pub returns-clause-sum_from_parts : goal.returns-clause-sum_from_parts
returns-clause-sum_from_parts c = sum_from_parts
