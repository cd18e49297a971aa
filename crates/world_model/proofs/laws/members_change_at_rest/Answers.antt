use Rattle.world_model.proofs.Regrouping.{regrouping_keeps_store, next_epoch_begins, next_epoch_shows_the_same}
use Rattle.world_model.proofs.laws.members_change_at_rest.Goals as goal

pub returns : goal.returns
returns c = record { store = regrouping_keeps_store; begins = next_epoch_begins; shows = next_epoch_shows_the_same }
