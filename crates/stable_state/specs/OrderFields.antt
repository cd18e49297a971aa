-- The fields of a list of slots in chunks.
use Rattle.std.specs.Prelude.{◌≡◌, ℕ, ◌+◌, ◌-◌, ◌*◌, ◌<◌, ◌≤◌, List, [], ◌∷◌, length, All}
use Rattle.std.specs.List.{concat}
use Rattle.stable_state.specs.Listed.{Listed}
use Rattle.stable_state.specs.declared.order.Order.TheInside.{Inside}

-- how many slots chunks have over half of what each has room for, all together
abbrev pub excess_of : List (List ℕ) → ℕ
excess_of [] = 0
excess_of (part ∷ parts) = (length part - 128) + excess_of parts

-- each free chunk, but for the one that the first slot takes, is good for half a chunk of slots
abbrev pub room_of : List (List ℕ) → ℕ → ℕ
room_of parts free = 128 * (free - (1 - length parts))

-- the slots, and the room that is not yet taken by what chunks have over half
abbrev pub listed : Inside → Listed
listed s = record { items = concat s.chunks.parts; spare = room_of s.chunks.parts s.chunks.free - s.excess }

-- a chunk in use has slots, and room for one more
pub record IsOpen (part : List ℕ) : Type 0 where
  pub some : 0 < length part
  pub short : length part < 256

-- each chunk has slots and room for one more, and there is room for what chunks have over half
pub record IsListed (s : Inside) : Type 0 where
  pub open_parts : All IsOpen s.chunks.parts
  pub excess : s.excess ≡ excess_of s.chunks.parts
  pub paid : s.excess ≤ room_of s.chunks.parts s.chunks.free
