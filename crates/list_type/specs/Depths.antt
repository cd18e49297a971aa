-- Trees that are laid out as lists, each element before what stands below it: an element has a depth, below it stand those
-- behind it that are deeper, up to the first that isn't, and it may be gone. Kept are those that aren't gone, and those with
-- one below that isn't.
use Rattle.std.specs.Prelude.{ℕ, Bool, true, false, not, ◌&&◌, ◌||◌, nat_lt, List, [], ◌∷◌}

module _ {X : Type 0} (depth : X → ℕ) (gone : X → Bool) where
  -- whether the first of a list stands below an element of this depth
  abbrev pub is_deeper : ℕ → List X → Bool
  is_deeper d [] = false
  is_deeper d (x ∷ xs) = nat_lt d (depth x)

  -- whether an element leaves in front of what is kept: it is gone, and none stands below it
  abbrev pub leaves : X → List X → Bool
  leaves x rest = gone x && not (is_deeper (depth x) rest)

  -- what is kept, with an element in front that leaves or stays
  abbrev pub put_before : Bool → X → List X → List X
  put_before true x rest = rest
  put_before false x rest = x ∷ rest

  -- what is kept of a list, asked from its end on
  abbrev pub pruned : List X → List X
  pruned [] = []
  pruned (x ∷ xs) = put_before (leaves x (pruned xs)) x (pruned xs)

  -- whether one of those below an element of this depth isn't gone, where the list is what stands behind it
  abbrev pub has_live_below : ℕ → List X → Bool
  has_live_below d [] = false
  has_live_below d (x ∷ xs) = nat_lt d (depth x) && (not (gone x) || has_live_below d xs)

  -- what is kept of a list, by its meaning
  abbrev pub kept : List X → List X
  kept [] = []
  kept (x ∷ xs) = put_before (gone x && not (has_live_below (depth x) xs)) x (kept xs)
