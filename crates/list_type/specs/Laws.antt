-- Laws of trees that are laid out as lists.
use Rattle.std.specs.Prelude.{◌≡◌, ℕ, suc, Bool, true, List, ◌∷◌, ◌++◌, map}
use Rattle.list_type.specs.Depths.{pruned, kept}
use Rattle.list_type.specs.Forests.{laid, laid_deep, laid_kept}
use Rattle.list_type.specs.Planted.{front, rest, EachOf, IsElsewhere, IsBelow, children_with, IsPut, IsRanked}

module _ (X : Type 0) where
  -- what was left out before more was gone is left out after, so that it may be left out at once
  abbrev pub LeavesOnce : Type 0
  LeavesOnce =
      (depth : X → ℕ) (gone : X → Bool) (f : X → X) → ((x : X) → depth (f x) ≡ depth x) → ((x : X) → gone x ≡ true → gone (f x) ≡ true)
      → (xs : List X) → pruned depth gone (map f (pruned depth gone xs)) ≡ pruned depth gone (map f xs)

  -- what is kept is told from the end on: those that aren't gone, and those with one below that isn't
  abbrev pub KeptFromTheEnd : Type 0
  KeptFromTheEnd = (depth : X → ℕ) (gone : X → Bool) (xs : List X) → pruned depth gone xs ≡ kept depth gone xs

-- depths tell what is kept of a forest
abbrev pub DepthsTell : Type 0 → Type 0 → Type 0
DepthsTell X K =
    (children : K → List X) (place_below : X → K) (gone : X → Bool) (deep depth : ℕ) (at : K)
    → map (λ x. x.0) (pruned (λ (x : X × ℕ). x.1) (λ x. gone x.0) (laid_deep children place_below deep depth at)) ≡ laid_kept children place_below gone deep at

-- a node that is put into a forest stands behind that of its place, past those behind it that pass
abbrev pub PutBehind : Type 0 → Type 0 → Type 0
PutBehind X K =
    (children : K → List X) (place_below : X → K) (is_there : K → Bool) (pass : X → Bool) (x : X) → IsRanked children place_below is_there pass x
    → (deep : ℕ) (at : K) → IsBelow children place_below is_there deep at
    → IsPut children place_below is_there pass x (laid children place_below (suc deep) at) (laid (children_with children place_below is_there pass x) place_below (suc deep) at)

-- one that is put on top stands past those at the front that pass
abbrev pub PutOnTop : Type 0 → Type 0 → Type 0
PutOnTop X K =
    (children : K → List X) (place_below : X → K) (is_there : K → Bool) (pass : X → Bool) (x : X) → IsRanked children place_below is_there pass x
    → (deep : ℕ) (at : K) → is_there at ≡ true → EachOf (λ y. IsElsewhere children place_below is_there deep (place_below y)) (children at)
    → let nodes = laid children place_below (suc deep) at in
    laid (children_with children place_below is_there pass x) place_below (suc deep) at ≡ front pass nodes ++ x ∷ rest pass nodes
