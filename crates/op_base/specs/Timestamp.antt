-- Timestamps, as lists of one number a member.
use Rattle.std.specs.Prelude.{◌≡◌, ◌⊎◌, ℕ, ◌+◌, ◌<◌, max, Bool, nat_le, nat_lt, if◌then◌else◌, List, [], ◌∷◌, slice_index, replicate}
use Rattle.std.specs.Cmp.Lexicographic.{pointwise}
use Rattle.op_base.specs.declared.tag.MessageId.{MessageId}

-- the entry at a member, and 0 past the last
abbrev pub entry : List ℕ → ℕ → ℕ
entry tag member = slice_index tag member

-- the timestamp of so many members before anything was sent
abbrev pub zero_tag : ℕ → List ℕ
zero_tag n = replicate n 0

-- the greater of each two entries
abbrev pub join : List ℕ → List ℕ → List ℕ
join [] ys = []
join (x ∷ xs) [] = []
join (x ∷ xs) (y ∷ ys) = max x y ∷ join xs ys

-- at how many members the entry of the first is above that of the second
abbrev pub count_above : List ℕ → List ℕ → ℕ
count_above [] ys = 0
count_above (x ∷ xs) [] = 0
count_above (x ∷ xs) (y ∷ ys) = (if nat_lt y x then 1 else 0) + count_above xs ys

-- whether no entry of the first is above that of the second
abbrev pub at_most : List ℕ → List ℕ → Bool
at_most xs ys = pointwise nat_le xs ys

-- where one number isn't another, a bound is below both
abbrev pub IsBelowChange : ℕ → ℕ → ℕ → Type 0
IsBelowChange bound from to = (from ≡ to) ⊎ ((bound < from) × (bound < to))

-- whether the number at an id's origin is at least the id's
abbrev pub covers : List ℕ → MessageId → Bool
covers tag id = nat_le id.seq (entry tag id.origin)

-- the id of a message of this origin with this timestamp
abbrev pub id_at : ℕ → List ℕ → MessageId
id_at origin tag = record { origin = origin; seq = entry tag origin }
