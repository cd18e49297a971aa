-- What a stop at any moment of a start may leave.
use Rattle.std.specs.Prelude.{◌≡◌, ℕ, List, None}
use Rattle.store_io.specs.Keeping.{Leaves}
use Rattle.world_model.specs.Records.{Settings, kept_prefix, kept_fault}
use Rattle.replica_keeper.specs.Keeping.{IsFrontOf}

-- of bytes without a fault a front of their groups, and of others a front of the bytes
pub record MayLeave (of : Settings) (held : List ℕ) (synced : ℕ) (left : List ℕ) : Type 0 where
  pub faultless : kept_fault of held ≡ None → IsFrontOf of (kept_prefix of held) synced left
  pub faulty : (kept_fault of held ≡ None → ⊥) → Leaves held synced left
