use Rattle.std.proofs.Common.{refl}
use Rattle.turn_lock.proofs.laws.worked_joins.Goals as goal

pub returns : goal.returns
returns c = λ l. (refl, refl, refl, refl)
