use Rattle.causal_model.proofs.Events.SameEvents.{same_events_answer_alike}
use Rattle.causal_model.proofs.laws.events.equal_events_answer_alike.Goals as goal

pub returns : goal.returns
returns c = same_events_answer_alike
