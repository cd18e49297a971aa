use Rattle.std.proofs.Common.{rules}
use Rattle.turn_lock.proofs.Sharing.{splits}
use Rattle.turn_lock.proofs.lock.TurnLock.split.Goals as goal

pub split_seat-requires : goal.split_seat-requires
split_seat-requires g c = (search rules, search rules, splits g.P.Story.fits _ _ _ c.opener.invariant.opens (search rules))
