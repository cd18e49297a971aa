use Rattle.honest_worlds.proofs.EventOrders.{happened_before_is_event_order}
use Rattle.honest_worlds.proofs.laws.the_order_of_timestamps_is_that_of_events.Goals as goal

pub returns : goal.returns
returns c = happened_before_is_event_order
