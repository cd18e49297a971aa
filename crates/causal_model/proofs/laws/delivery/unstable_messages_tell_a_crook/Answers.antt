use Rattle.causal_model.proofs.Delivery.Unclosed.{window_tells_unclosed, seen_before_is_closed, unstable_messages-push}
use Rattle.causal_model.proofs.laws.delivery.unstable_messages_tell_a_crook.Goals as goal

pub returns-clause-unclosed : goal.returns-clause-unclosed
returns-clause-unclosed c = window_tells_unclosed

pub returns-clause-unstable : goal.returns-clause-unstable
returns-clause-unstable c = unstable_messages-push

pub returns-clause-seen : goal.returns-clause-seen
returns-clause-seen c = seen_before_is_closed
