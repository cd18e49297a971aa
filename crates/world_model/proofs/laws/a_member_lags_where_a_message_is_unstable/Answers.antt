use Rattle.world_model.proofs.Lagging.{none_lags_is_all_stable, lagging_is_another}
use Rattle.world_model.proofs.laws.a_member_lags_where_a_message_is_unstable.Goals as goal

pub returns : goal.returns
returns c = record { none = none_lags_is_all_stable; another = lagging_is_another }
