use Rattle.causal_model.proofs.States.Steps.{steps_of_none, steps_of_one_more, none_is_next_after_steps, steps_take_messages_out}
use Rattle.causal_model.proofs.laws.states.steps_end.Goals as goal

pub returns-clause-none : goal.returns-clause-none
returns-clause-none c = steps_of_none

pub returns-clause-one_more : goal.returns-clause-one_more
returns-clause-one_more c = steps_of_one_more

pub returns-clause-end : goal.returns-clause-end
returns-clause-end c = none_is_next_after_steps

pub returns-clause-fewer : goal.returns-clause-fewer
returns-clause-fewer c = steps_take_messages_out
