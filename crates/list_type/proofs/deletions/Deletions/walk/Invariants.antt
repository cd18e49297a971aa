use Rattle.std.proofs.Common.{length, min}
use Rattle.list_type.proofs.LinkedDeletions.{NoneBehind}
use Rattle.list_type.proofs.deletions.Deletions.walk.Given as goal

abbrev pub invariant-loop-link : goal.invariant-loop-link
invariant-loop-link l = NoneBehind l.entries (min (length l.entries) 1024) l.epoch l.id l.link

abbrev pub decreases-loop-link : goal.decreases-loop-link
decreases-loop-link l = l.link
