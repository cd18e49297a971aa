use Rattle.causal_model.proofs.Theory.Maximal.{some_is_maximal, live_goes_up}
use Rattle.causal_model.proofs.laws.events.maximal_events_are_there.Goals as goal

pub returns-clause-maximal : goal.returns-clause-maximal
returns-clause-maximal c = some_is_maximal

pub returns-clause-live : goal.returns-clause-live
returns-clause-live c = live_goes_up
