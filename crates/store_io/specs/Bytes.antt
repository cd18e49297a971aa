-- What a read takes from the bytes that a source has left, and a write adds to those that a sink holds.
-- A source or a sink that tells no bytes is at `None`.
use Rattle.std.specs.Prelude.{◌≡◌, ℕ, ◌<◌, Option, IfSome, List, [], ◌++◌, length, take}
use Rattle.std.specs.Option.{option_map}

-- the source gave these bytes: they stood at the front of what was left
abbrev pub Gave : Option (List ℕ) → Option (List ℕ) → List ℕ → Type 0
Gave old new bytes = old ≡ option_map (λ rest. bytes ++ rest) new

-- nothing is left, where it is told
abbrev pub Ended : Option (List ℕ) → Type 0
Ended left = IfSome left (λ rest. rest ≡ [])

-- the sink took these bytes, and has them behind what it held
abbrev pub Took : Option (List ℕ) → Option (List ℕ) → List ℕ → Type 0
Took old new bytes = new ≡ option_map (λ held. held ++ bytes) old

-- the sink took the front of these bytes, and not all of them
abbrev pub TookPrefix : Option (List ℕ) → Option (List ℕ) → List ℕ → Type 0
TookPrefix old new bytes = (count : ℕ) × (count < length bytes) × Took old new (take count bytes)
