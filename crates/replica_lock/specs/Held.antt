-- What a pass has seen of its node, between two calls.
use Rattle.std.specs.Prelude.{◌≡◌, ℕ, false, List}
use Rattle.turn_lock.specs.Turns.{LockState}
use Rattle.replica_lock.specs.Turns.{NotedTurn}
use Rattle.replica_lock.specs.declared.pass.Pass.TheInside as pass
use Rattle.replica_lock.specs.declared.pass.Settings.{Settings}

-- a pass: its lock, its number, the turns that it has seen, and its own
pub record Held : Type 0 where
  pub lock : LockState Settings
  pub number : ℕ
  pub seen : List NotedTurn
  pub own : List NotedTurn

abbrev pub held_shown : pass.Inside → Held
held_shown p = record { lock = p.inner.lock; number = p.inner.number; seen = p.inner.seen; own = p.inner.own }

-- it has no turn
abbrev pub IsBetweenTurns : pass.Inside → Type 0
IsBetweenTurns p = p.inner.in_turn ≡ false
