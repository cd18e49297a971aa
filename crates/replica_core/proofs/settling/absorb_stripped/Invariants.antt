use Rattle.std.proofs.Common.{length}
use Rattle.list_type.specs.Shown.{shown as lists_shown}
use Rattle.stable_state.specs.Shown.{shown}
use Rattle.replica_core.proofs.SettledWaits.{AreMoving}
use Rattle.replica_core.proofs.settling.absorb_stripped.Given as goal

abbrev pub invariant-loop-entry : goal.invariant-loop-entry
invariant-loop-entry l = AreMoving l.epoch l.fn.log l.log (shown l.fn.items) (shown l.items) (lists_shown l.fn.lists) (lists_shown l.lists)

abbrev pub decreases-loop-entry : goal.decreases-loop-entry
decreases-loop-entry l = length l.log.stripped
