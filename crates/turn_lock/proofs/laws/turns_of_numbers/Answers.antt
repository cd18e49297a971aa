use Rattle.turn_lock.proofs.TurnLists.{fronts, turns_of-append, rearranged}
use Rattle.turn_lock.proofs.laws.turns_of_numbers.Goals as goal

pub returns : goal.returns
returns g c = record { fronts = fronts; numbers = turns_of-append; rearranged = rearranged }
