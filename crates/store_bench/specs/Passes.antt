-- The passes of one lock.
use Rattle.std.specs.Prelude.{◌≡◌, false}
use Rattle.turn_lock.specs.Turns.{LockState, PassState}

-- the pass is of this lock, and has no turn
abbrev pub IsIdle : {E K : Type 0} → LockState K → PassState E K → Type 0
IsIdle l p = (p.lock ≡ l) × (p.in_turn ≡ false)
