use Rattle.causal_buffer.proofs.Standing.{member_is_in_store, counts_are_of_store, early_are_ahead, early_are_near, next_id_is_of_message, next_is_of_member}
use Rattle.causal_buffer.proofs.laws.states_meet_what_is_asked.Goals as goal

pub returns-clause-member : goal.returns-clause-member
returns-clause-member c = member_is_in_store

pub returns-clause-counts : goal.returns-clause-counts
returns-clause-counts c = counts_are_of_store

pub returns-clause-ahead : goal.returns-clause-ahead
returns-clause-ahead c = early_are_ahead

pub returns-clause-near : goal.returns-clause-near
returns-clause-near c = early_are_near

pub returns-clause-next : goal.returns-clause-next
returns-clause-next c = next_id_is_of_message

pub returns-clause-next_member : goal.returns-clause-next_member
returns-clause-next_member c = next_is_of_member
