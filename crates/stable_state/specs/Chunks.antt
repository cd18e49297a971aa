-- Lists that lie one behind the other.
use Rattle.std.specs.Prelude.{ℕ, ◌+◌, ◌<◌, ◌≤◌, Bool, false, List, [], ◌∷◌, length, take, slice_index_or}
use Rattle.std.specs.List.{concat}

-- the chunks in use, and how many are free
pub record Chunked : Type 0 where
  pub parts : List (List ℕ)
  pub free : ℕ

-- the place at which each of some lists ends that lie one behind the other from a place on
abbrev pub ends_from : ℕ → List (List ℕ) → List ℕ
ends_from start [] = []
ends_from start (part ∷ parts) = (start + length part) ∷ ends_from (start + length part) parts

-- whether the first slot of a chunk passes a test
abbrev pub first_passes : (ℕ → Bool) → List ℕ → Bool
first_passes p [] = false
first_passes p (slot ∷ slots) = p slot

-- the first chunk that doesn't end before a place
pub record IsHome (parts : List (List ℕ)) (place chunk : ℕ) : Type 0 where
  pub within : chunk < length parts
  pub begins : length (concat (take chunk parts)) ≤ place
  pub begins_before : 0 < place → length (concat (take chunk parts)) < place
  pub ends : place ≤ length (concat (take chunk parts)) + length (slice_index_or parts chunk [])

-- chunks with at least one in use
abbrev pub opened : List (List ℕ) → List (List ℕ)
opened [] = [] ∷ []
opened (part ∷ parts) = part ∷ parts
