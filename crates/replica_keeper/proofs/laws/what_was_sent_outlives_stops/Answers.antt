use Rattle.replica_keeper.proofs.Left.{what_was_sent_stays}
use Rattle.replica_keeper.proofs.laws.what_was_sent_outlives_stops.Goals as goal

pub returns : goal.returns
returns c = what_was_sent_stays
