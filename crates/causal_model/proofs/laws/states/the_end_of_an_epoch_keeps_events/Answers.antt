use Rattle.causal_model.proofs.Events.Regrouping.{regroup_keeps_events, regroup_keeps_items}
use Rattle.causal_model.proofs.laws.states.the_end_of_an_epoch_keeps_events.Goals as goal

pub returns-clause-events : goal.returns-clause-events
returns-clause-events c = regroup_keeps_events

pub returns-clause-items : goal.returns-clause-items
returns-clause-items c = regroup_keeps_items
