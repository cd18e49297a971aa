-- The fields of chunks.
use Rattle.std.specs.Prelude.{◌≡◌, ℕ, ◌+◌, ◌^◌, ◌≤◌, List, [], map, length, All, Vec, vec_capacity}
use Rattle.std.specs.declared.alloc.Global.{Global}
use Rattle.stable_state.specs.Chunks.{Chunked, ends_from}
use Rattle.stable_state.specs.declared.chunks.Chunks.TheInside.{Inside}

-- the slots of each chunk
abbrev pub parts_of : List (Vec ℕ Global) → List (List ℕ)
parts_of lists = map (λ list. list.items) lists

-- the chunks as contracts see them
abbrev pub chunked : Inside → Chunked
chunked s = record { parts = parts_of s.lists.items; free = length s.free.items }

-- a chunk has room for 256 slots, and no more slots
pub record IsChunk (list : Vec ℕ Global) : Type 0 where
  pub room : 256 ≤ vec_capacity list
  pub short : length list.items ≤ 256

-- a free chunk has that room, and no slots
pub record IsFree (list : Vec ℕ Global) : Type 0 where
  pub room : 256 ≤ vec_capacity list
  pub empty : list.items ≡ []

-- each chunk has its room, the ends are those of the chunks, and there is room to take each chunk into use and to free it
pub record IsChunked (s : Inside) : Type 0 where
  pub lists : All IsChunk s.lists.items
  pub free : All IsFree s.free.items
  pub ends : s.ends.items ≡ ends_from 0 (parts_of s.lists.items)
  pub few : length s.lists.items + length s.free.items ≤ 2 ^ 23
  pub lists_room : length s.lists.items + length s.free.items ≤ vec_capacity s.lists
  pub ends_room : length s.lists.items + length s.free.items ≤ vec_capacity s.ends
  pub free_room : length s.lists.items + length s.free.items ≤ vec_capacity s.free
