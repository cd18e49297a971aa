-- A node is put into a forest that is laid out as a list: at a place, past those there that pass.
use Rattle.std.specs.Prelude.{◌≡◌, ℕ, zero, suc, Bool, true, false, ◌⊎◌, List, [], ◌∷◌, ◌++◌, if◌then◌else◌}

module _ {X : Type 0} (pass : X → Bool) where
  -- those at the front of a list that pass, as far as each does
  abbrev pub front : List X → List X
  front [] = []
  front (x ∷ xs) = if pass x then x ∷ front xs else []

  -- the rest
  abbrev pub rest : List X → List X
  rest [] = []
  rest (x ∷ xs) = if pass x then rest xs else x ∷ xs

  -- the first of a list, if there is one, doesn't pass
  abbrev pub FirstFails : List X → Type 0
  FirstFails [] = Unit {0}
  FirstFails (x ∷ xs) = pass x ≡ false

  -- each of a list passes
  abbrev pub AllPass : List X → Type 0
  AllPass [] = Unit {0}
  AllPass (x ∷ xs) = (pass x ≡ true) × AllPass xs

-- a fact of each of a list
abbrev pub EachOf : {X : Type 0} → (X → Type 0) → List X → Type 0
EachOf P [] = Unit {0}
EachOf P (x ∷ xs) = P x × EachOf P xs

module _ {X K : Type 0} (children : K → List X) (place_below : X → K) (is_there : K → Bool) where
  -- a place isn't the one, and it isn't below it within so many generations
  abbrev pub IsElsewhere : ℕ → K → Type 0
  IsElsewhere zero at = Unit {0}
  IsElsewhere (suc deep) at = (is_there at ≡ false) × EachOf (λ x. IsElsewhere deep (place_below x)) (children at)

  -- The one place is below this within so many generations, and once: one of the nodes here is next to it, or has it below.
  abbrev pub IsBelow : ℕ → K → Type 0
  IsBelow zero at = ⊥
  IsBelow (suc deep) at =
      (xs : List X) × (y : X) × (ys : List X)
      × (is_there at ≡ false)
      × (children at ≡ xs ++ y ∷ ys)
      × EachOf (λ x. IsElsewhere (suc deep) (place_below x)) xs
      × EachOf (λ x. IsElsewhere (suc deep) (place_below x)) ys
      × (((is_there (place_below y) ≡ true) × EachOf (λ x. IsElsewhere deep (place_below x)) (children (place_below y))) ⊎ IsBelow deep (place_below y))

  module _ (pass : X → Bool) (x : X) where
    -- the nodes at each place once the node was put at the one
    abbrev pub children_with : K → List X
    children_with at = if is_there at then front pass (children at) ++ x ∷ rest pass (children at) else children at

    -- the node stands behind that of the place, and past those there that pass
    pub record IsPut (old new : List X) : Type 0 where
      pub before : List X
      pub node : X
      pub after : List X
      pub old_is : old ≡ before ++ node ∷ after
      pub there : is_there (place_below node) ≡ true
      pub new_is : new ≡ before ++ node ∷ (front pass after ++ x ∷ rest pass after)

    -- those below one that passes pass; of those at a place none passes behind one that doesn't; the node of the place
    -- doesn't pass; and nothing stands below the new node
    pub record IsRanked : Type 0 where
      pub down : (y : X) → pass y ≡ true → AllPass pass (children (place_below y))
      pub along : (at : K) (xs ys : List X) (y : X) → children at ≡ xs ++ y ∷ ys → pass y ≡ false → FirstFails pass ys
      pub there_fails : (y : X) → is_there (place_below y) ≡ true → pass y ≡ false
      pub leaf : children_with (place_below x) ≡ []
