use Rattle.std.proofs.Common.{rules}
use Rattle.turn_lock.proofs.Sharing.{joins}
use Rattle.turn_lock.proofs.lock.TurnLock.join.Goals as goal

pub join_seat-requires : goal.join_seat-requires
join_seat-requires g c = (search rules, search rules, search rules, search rules, joins g.P.Story.fits _ _ _ _ _ _ c.opener.invariant.opens c.pass.invariant.live (search rules))
