use Rattle.causal_model.proofs.Lists.KeptLists.{pruned_behind, pruned_in_front}
use Rattle.causal_model.proofs.Lists.KeptOfOneMore.{kept_ids_differ, kept_of_one_more, kept_stays_pruned, others_move_nothing, new_id_is_fresh}
use Rattle.causal_model.proofs.Lists.ListsOfOneMore.{list_of_one_more}
use Rattle.causal_model.proofs.Lists.ShownLists.{kept_moves_by_entry}
use Rattle.causal_model.proofs.laws.lists.elements_of_one_message_more.Goals as goal

pub returns-clause-elements : goal.returns-clause-elements
returns-clause-elements c = list_of_one_more

pub returns-clause-kept : goal.returns-clause-kept
returns-clause-kept c = λ w h m object t is_list. kept_of_one_more w h m t object is_list

pub returns-clause-by_entry : goal.returns-clause-by_entry
returns-clause-by_entry c = kept_moves_by_entry

pub returns-clause-others : goal.returns-clause-others
returns-clause-others c = λ w h m object k d t is_list other. others_move_nothing w h m t object is_list k d other

pub returns-clause-fresh : goal.returns-clause-fresh
returns-clause-fresh c = new_id_is_fresh

pub returns-clause-pruned : goal.returns-clause-pruned
returns-clause-pruned c = λ w h m object k t is_list. kept_stays_pruned w h m t object is_list k

pub returns-clause-in_front : goal.returns-clause-in_front
returns-clause-in_front c = pruned_in_front

pub returns-clause-behind : goal.returns-clause-behind
returns-clause-behind c = pruned_behind

pub returns-clause-differ : goal.returns-clause-differ
returns-clause-differ c = λ w h m object k t is_list. kept_ids_differ w h m t object is_list k
