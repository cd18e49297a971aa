use Rattle.world_model.proofs.Shown.{settled_is_equal_counts, same_events_are_answered_alike}
use Rattle.world_model.proofs.laws.replicas_show_what_they_have.Goals as goal

pub returns : goal.returns
returns c = record { settled = settled_is_equal_counts; answers = same_events_are_answered_alike }
