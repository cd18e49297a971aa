use Rattle.causal_model.proofs.States.Journals.{sending_replays, beating_replays, receiving_replays, group_keeps_state, groups_grow, legal_is_state, legal_grows}
use Rattle.causal_model.proofs.laws.states.journals_are_of_groups.Goals as goal

pub returns-clause-sending : goal.returns-clause-sending
returns-clause-sending c = sending_replays

pub returns-clause-beating : goal.returns-clause-beating
returns-clause-beating c = beating_replays

pub returns-clause-receiving : goal.returns-clause-receiving
returns-clause-receiving c = λ w limit s m is fit carried. receiving_replays w limit s m is fit carried

pub returns-clause-keeps : goal.returns-clause-keeps
returns-clause-keeps c = group_keeps_state

pub returns-clause-grow : goal.returns-clause-grow
returns-clause-grow c = groups_grow

pub returns-clause-legal : goal.returns-clause-legal
returns-clause-legal c = legal_is_state

pub returns-clause-legal_grows : goal.returns-clause-legal_grows
returns-clause-legal_grows c = legal_grows
