-- What a keeper in memory is, call by call.
use Rattle.std.specs.Prelude.{ℕ, ◌+◌, ◌-◌, ◌/◌, ◌⊎◌, min, Bool, if◌then◌else◌, List, [], ◌∷◌, ◌++◌, length, take, drop}
use Rattle.store_io.specs.Keeping.{Leaves}
use Rattle.store_io.specs.Memory.{number_after, is_failing}

-- Bytes that were held, and how many of them were synced.
abbrev pub Stage : Type 0
Stage = List ℕ × ℕ

-- a stop at one of these stages leaves this
abbrev pub LeftByOne : List Stage → List ℕ → Type 0
LeftByOne [] left = ⊥
LeftByOne (stage ∷ stages) left = Leaves stage.0 stage.1 left ⊎ LeftByOne stages left

-- the bytes held, how many are synced, for how many more there is room, which calls fail, how many were made, how many of
-- those failed, and what was held before each call that took a byte away or synced one
pub record KeeperState : Type 0 where
  pub held : List ℕ
  pub synced : ℕ
  pub spare : ℕ
  pub failing : List ℕ
  pub calls : ℕ
  pub faults : ℕ
  pub past : List Stage

-- what a stop since a moment, counted by stages, leaves
abbrev pub LeftSince : KeeperState → ℕ → List ℕ → Type 0
LeftSince s t left = LeftByOne (drop t s.past) left ⊎ Leaves s.held s.synced left

-- a keeper that holds nothing, and whose calls of these numbers fail
abbrev pub nothing_held : List ℕ → KeeperState
nothing_held failing = record { held = []; synced = 0; spare = 0; failing = failing; calls = 0; faults = 0; past = [] }

-- whether the next call fails
abbrev pub fails_next : KeeperState → Bool
fails_next s = is_failing s.failing (number_after s.calls)

-- after one call more is counted
abbrev pub counted : KeeperState → KeeperState
counted s = record s { calls = number_after s.calls; faults = if fails_next s then s.faults + 1 else s.faults }

-- with these bytes behind
abbrev pub with_piece : KeeperState → List ℕ → KeeperState
with_piece s piece = record s { held = s.held ++ piece; spare = s.spare - length piece }

-- after an append, which takes half of the piece where it fails
abbrev pub after_append : KeeperState → List ℕ → KeeperState
after_append s piece = with_piece (counted s) (if fails_next s then take (length piece / 2) piece else piece)

-- with so many bytes held and so many synced, and what was held before noted
abbrev pub with_stage : KeeperState → List ℕ → ℕ → KeeperState
with_stage s held synced = record s { held = held; synced = synced; past = s.past ++ (s.held, s.synced) ∷ [] }

-- after a cut
abbrev pub after_cut : KeeperState → ℕ → KeeperState
after_cut s len = if fails_next s then counted s else with_stage (counted s) (take len s.held) (min len s.synced)

-- after a sync
abbrev pub after_sync : KeeperState → KeeperState
after_sync s = if fails_next s then counted s else with_stage (counted s) s.held (length s.held)

-- after a stop that left so many bytes behind those synced: all that is left is synced, and what was before is over
abbrev pub after_stop : KeeperState → ℕ → KeeperState
after_stop s bytes =
    let left = take (s.synced + bytes) s.held in
    record s { held = left; synced = length left; past = [] }
