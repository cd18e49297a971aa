use Rattle.causal_model.proofs.States.Journals.{sending_notes_one_group, beating_notes_one_group, receiving_notes_one_group}
use Rattle.causal_model.proofs.laws.states.calls_note_one_group.Goals as goal

pub returns-clause-sending : goal.returns-clause-sending
returns-clause-sending c = sending_notes_one_group

pub returns-clause-beating : goal.returns-clause-beating
returns-clause-beating c = beating_notes_one_group

pub returns-clause-receiving : goal.returns-clause-receiving
returns-clause-receiving c = receiving_notes_one_group
