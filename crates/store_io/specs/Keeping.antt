-- What a keeper of bytes may lose when it is stopped, and what its calls do meanwhile.
use Rattle.std.specs.Prelude.{◌≡◌, ◌⊎◌, ℕ, ◌≤◌, List, ◌++◌, length, take}

-- a stop leaves a front of the bytes held, at least as long as what is synced
pub record Leaves (held : List ℕ) (synced : ℕ) (left : List ℕ) : Type 0 where
  pub count : ℕ
  pub durable : synced ≤ count
  pub within : count ≤ length held
  pub front : left ≡ take count held

-- it leaves this of what was held before a call, or of what is held after it
abbrev pub LeavesEither : List ℕ → ℕ → List ℕ → ℕ → List ℕ → Type 0
LeavesEither old synced_old new synced_new left = Leaves old synced_old left ⊎ Leaves new synced_new left

-- the bytes held are those before with a front of a piece
abbrev pub HasFront : List ℕ → List ℕ → List ℕ → Type 0
HasFront old piece new = (count : ℕ) × (count ≤ length piece) × (new ≡ old ++ take count piece)

-- Time goes on: a stop since t might have left what it might have left before, or what this call may leave.
pub record Elapses (before now : ℕ) (past since : ℕ → List ℕ → Type 0) (MayLeave : List ℕ → Type 0) : Type 0 where
  pub later : before ≤ now
  pub nothing_else : (t : ℕ) (left : List ℕ) → t ≤ before → since t left → past t left ⊎ MayLeave left
  pub keeps : (t : ℕ) (left : List ℕ) → t ≤ before → past t left → since t left

-- A stop at any moment since old leaves bytes that have P.
pub record LeavesOnly {D : Type 0} (moment : D → ℕ) (left_since : D → ℕ → List ℕ → Type 0) (old new : D) (P : List ℕ → Type 0) : Type 0 where
  pub later : moment old ≤ moment new
  pub each : (left : List ℕ) → left_since new (moment old) left → P left
  -- for a run that began earlier
  pub before : (t : ℕ) (left : List ℕ) → t ≤ moment old → left_since new t left → left_since old t left ⊎ P left
