-- That the moments of a keeper in memory are what a keeper's are to be.
use Rattle.std.specs.Prelude.{◌⊎◌, ℕ, ◌≤◌, List, [], ◌∷◌, length, drop}
use mathlib.Core.Logic.{inl, inr}
use Rattle.store_io.specs.Keeping.{Leaves}
use Rattle.store_io.specs.MemoryKeeping.{Stage, KeeperState, LeftByOne, LeftSince}

pub counts_now : (k : KeeperState) (t : ℕ) (left : List ℕ) → t ≤ length k.past → Leaves k.held k.synced left → LeftSince k t left
counts_now k t left le now = inr now

none_left : (past : List Stage) (left : List ℕ) → LeftByOne (drop (length past) past) left → ⊥
none_left [] left had = had
none_left (stage ∷ past) left had = none_left past left had

-- since the last of the stages there is what is held now
only_by : (past : List Stage) (held : List ℕ) (synced : ℕ) (left : List ℕ) → LeftByOne (drop (length past) past) left ⊎ Leaves held synced left → Leaves held synced left
only_by past held synced left (inl had) = absurd (none_left past left had)
only_by past held synced left (inr now) = now

pub only_now : (k : KeeperState) (left : List ℕ) → LeftSince k (length k.past) left → Leaves k.held k.synced left
only_now k left since = only_by k.past k.held k.synced left since
