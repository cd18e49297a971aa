use Rattle.honest_worlds.proofs.Stops.{kept_is_honest, opening_is_kept, local_is_kept, beat_is_kept, give_is_kept, stop_is_kept}
use Rattle.honest_worlds.proofs.laws.stops_keep_worlds_honest.Goals as goal

pub returns : goal.returns
returns c = record { honest = kept_is_honest; opening = opening_is_kept; local = local_is_kept; beat = beat_is_kept; give = give_is_kept; stop = stop_is_kept }
