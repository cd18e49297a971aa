use Rattle.outbox.proofs.Nexts.{next_is_pushed}
use Rattle.outbox.proofs.laws.the_next_message_is_pushed.Goals as goal

pub returns-clause-own : goal.returns-clause-own
returns-clause-own c = next_is_pushed
