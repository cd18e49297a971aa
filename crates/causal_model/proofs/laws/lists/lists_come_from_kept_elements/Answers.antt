use Rattle.causal_model.proofs.Lists.ShownLists.{own_entries_tell, values_from_kept, ids_from_kept, tombs_are_from_kept}
use Rattle.causal_model.proofs.laws.lists.lists_come_from_kept_elements.Goals as goal

pub returns-clause-values : goal.returns-clause-values
returns-clause-values c = values_from_kept

pub returns-clause-ids : goal.returns-clause-ids
returns-clause-ids c = ids_from_kept

pub returns-clause-tombs : goal.returns-clause-tombs
returns-clause-tombs c = tombs_are_from_kept

pub returns-clause-own : goal.returns-clause-own
returns-clause-own c = own_entries_tell
