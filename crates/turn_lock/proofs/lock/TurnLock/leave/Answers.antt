use Rattle.std.proofs.Common.{rules}
use Rattle.turn_lock.proofs.Turning.{passes}
use Rattle.turn_lock.proofs.lock.TurnLock.leave.Goals as goal

pub store-requires : goal.store-requires
store-requires g c = (search rules, search rules, passes g.P.Story.fits _ _ _ _ c.args.value _ (search rules) (search rules) (search rules) (search rules) (search rules))
