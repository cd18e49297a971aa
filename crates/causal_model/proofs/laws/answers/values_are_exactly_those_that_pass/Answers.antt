use Rattle.causal_model.proofs.Answers.Values.{values_rise, values_are_exact, only_named_are_in, one_list_of_texts}
use Rattle.causal_model.proofs.laws.answers.values_are_exactly_those_that_pass.Goals as goal

pub returns-clause-rise : goal.returns-clause-rise
returns-clause-rise c = values_rise

pub returns-clause-exact : goal.returns-clause-exact
returns-clause-exact c = values_are_exact

pub returns-clause-named : goal.returns-clause-named
returns-clause-named c = only_named_are_in

pub returns-clause-one_list : goal.returns-clause-one_list
returns-clause-one_list c = one_list_of_texts
