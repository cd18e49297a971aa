use Rattle.causal_model.proofs.States.Early.{next_is_of_the_lowest, equal_sets_are_equal_lists, early_is_bounded, all_early_is_bounded}
use Rattle.causal_model.proofs.laws.states.early_messages_are_one_list.Goals as goal

pub returns-clause-lowest : goal.returns-clause-lowest
returns-clause-lowest c = next_is_of_the_lowest

pub returns-clause-equal : goal.returns-clause-equal
returns-clause-equal c = equal_sets_are_equal_lists

pub returns-clause-bounded : goal.returns-clause-bounded
returns-clause-bounded c = λ n w limit me x counted early are. early_is_bounded n w limit me counted early are x

pub returns-clause-all_bounded : goal.returns-clause-all_bounded
returns-clause-all_bounded c = all_early_is_bounded
