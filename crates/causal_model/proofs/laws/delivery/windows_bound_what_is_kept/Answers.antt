use Rattle.causal_model.proofs.Delivery.Logs.{log_is_bounded}
use Rattle.causal_model.proofs.Delivery.Rooms.{room_for_next, log_has_room}
use Rattle.causal_model.proofs.Delivery.Settling.{few_are_unstable}
use Rattle.causal_model.proofs.laws.delivery.windows_bound_what_is_kept.Goals as goal

pub returns-clause-unstable : goal.returns-clause-unstable
returns-clause-unstable c = few_are_unstable

pub returns-clause-log : goal.returns-clause-log
returns-clause-log c = log_is_bounded

pub returns-clause-next : goal.returns-clause-next
returns-clause-next c = room_for_next

pub returns-clause-log_of_next : goal.returns-clause-log_of_next
returns-clause-log_of_next c = log_has_room
