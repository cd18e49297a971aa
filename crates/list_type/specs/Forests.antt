-- Forests that are laid out as lists: each node ahead of those below it, and these ahead of the next beside it.
use Rattle.std.specs.Prelude.{ℕ, zero, suc, Bool, not, ◌||◌, List, [], ◌∷◌, if◌then◌else◌}
use Rattle.std.specs.List.{list_any, flat_map}

-- what stands at a place, and the place below each node
module _ {X K : Type 0} (children : K → List X) (place_below : X → K) where
  -- the nodes below a place, of so many generations
  abbrev pub laid : ℕ → K → List X
  laid zero at = []
  laid (suc deep) at = flat_map (λ x. x ∷ laid deep (place_below x)) (children at)

  -- the same, each with its depth, where those at the place have this
  abbrev pub laid_deep : ℕ → ℕ → K → List (X × ℕ)
  laid_deep zero depth at = []
  laid_deep (suc deep) depth at = flat_map (λ x. (x, depth) ∷ laid_deep deep (suc depth) (place_below x)) (children at)

  -- those that aren't gone, or have one below them that isn't
  abbrev pub laid_kept : (X → Bool) → ℕ → K → List X
  laid_kept gone zero at = []
  laid_kept gone (suc deep) at =
      flat_map
      (λ x.
      let below = laid_kept gone deep (place_below x) in
      if not (gone x) || list_any (λ y. not (gone y)) (laid deep (place_below x)) then x ∷ below else below)
      (children at)
