use Rattle.causal_buffer.proofs.Standing.{own_keeps_buffer}
use Rattle.causal_buffer.proofs.laws.own_messages_leave_a_buffer.Goals as goal

pub returns : goal.returns
returns c = own_keeps_buffer
