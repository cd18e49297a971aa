-- What is kept of a forest that is laid out is what is kept by its depths.
use Rattle.std.proofs.Common.{◌≡◌, ℕ, zero, suc, Bool, true, false, not, ◌&&◌, ◌||◌, cond, List, [], ◌∷◌, ◌++◌, map, refl, ap, ◌∙◌, arith}
use Rattle.std.specs.List.{list_any, flat_map}
use Rattle.std.proofs.lemmas.Bool.{le-ltb}
use Rattle.std.proofs.lemmas.List.{map-append}
use Rattle.list_type.specs.Depths.{is_deeper, put_before, pruned}
use Rattle.list_type.specs.Forests.{laid, laid_deep, laid_kept}
use Rattle.list_type.proofs.Depths.{IsAtLeast, at_least-append, at_least_less, pruned-append, pruned_not_deeper, deeper_is_live, all_below}

module _ {X K : Type 0} (children : K → List X) (place_below : X → K) (gone : X → Bool) where
  abbrev deep_of : X × ℕ → ℕ
  deep_of x = x.1

  abbrev gone_of : X × ℕ → Bool
  gone_of x = gone x.0

  abbrev node_of : X × ℕ → X
  node_of x = x.0

  -- with depths they are the same nodes
  pub nodes_laid : (deep depth : ℕ) (at : K) → map node_of (laid_deep children place_below deep depth at) ≡ laid children place_below deep at
  nodes_laid zero depth at = refl
  nodes_laid (suc deep) depth at = each (nodes_laid deep (suc depth)) (children at) where
    each : ((k : K) → map node_of (laid_deep children place_below deep (suc depth) k) ≡ laid children place_below deep k) → (xs : List X)
        → map node_of (flat_map (λ x. (x, depth) ∷ laid_deep children place_below deep (suc depth) (place_below x)) xs) ≡ flat_map (λ x. x ∷ laid children place_below deep (place_below x)) xs
    each below [] = refl
    each below (x ∷ xs) =
        map-append node_of ((x, depth) ∷ laid_deep children place_below deep (suc depth) (place_below x)) (flat_map (λ y. (y, depth) ∷ laid_deep children place_below deep (suc depth) (place_below y)) xs)
        ∙ (λ i. (x ∷ below (place_below x) i) ++ each below xs i)

  -- and none has a lower depth than those at the place
  pub laid_at_least : (deep depth : ℕ) (at : K) → IsAtLeast deep_of gone_of depth (laid_deep children place_below deep depth at)
  laid_at_least zero depth at = tt
  laid_at_least (suc deep) depth at = each (laid_at_least deep (suc depth)) (children at) where
    each : ((k : K) → IsAtLeast deep_of gone_of (suc depth) (laid_deep children place_below deep (suc depth) k)) → (xs : List X)
        → IsAtLeast deep_of gone_of depth (flat_map (λ x. (x, depth) ∷ laid_deep children place_below deep (suc depth) (place_below x)) xs)
    each below [] = tt
    each below (x ∷ xs) =
        at_least-append deep_of gone_of depth ((x, depth) ∷ laid_deep children place_below deep (suc depth) (place_below x)) (flat_map (λ y. (y, depth) ∷ laid_deep children place_below deep (suc depth) (place_below y)) xs)
        (omega arith, at_least_less deep_of gone_of depth (suc depth) (laid_deep children place_below deep (suc depth) (place_below x)) (omega arith) (below (place_below x)))
        (each below xs)

  live_laid : (xs : List (X × ℕ)) → list_any (λ x. not (gone_of x)) xs ≡ list_any (λ x. not (gone x)) (map node_of xs)
  live_laid [] = refl
  live_laid (x ∷ xs) = ap (λ b. not (gone x.0) || b) (live_laid xs)

  -- what is kept of those below a place
  pub kept_laid : (deep depth : ℕ) (at : K) → map node_of (pruned deep_of gone_of (laid_deep children place_below deep depth at)) ≡ laid_kept children place_below gone deep at
  kept_laid zero depth at = refl
  kept_laid (suc deep) depth at = each (kept_laid deep (suc depth)) (children at) where
    not_above : (xs : List X) → is_deeper deep_of gone_of depth (flat_map (λ x. (x, depth) ∷ laid_deep children place_below deep (suc depth) (place_below x)) xs) ≡ false
    not_above [] = refl
    not_above (x ∷ xs) = le-ltb depth depth (omega arith)

    chosen : (g live : Bool) (x : X) (ys : List (X × ℕ)) → map node_of (put_before deep_of gone_of (g && not live) (x, depth) ys) ≡ cond (not g || live) (x ∷ map node_of ys) (map node_of ys)
    chosen true true x ys = refl
    chosen true false x ys = refl
    chosen false live x ys = refl

    each : ((k : K) → map node_of (pruned deep_of gone_of (laid_deep children place_below deep (suc depth) k)) ≡ laid_kept children place_below gone deep k) → (xs : List X)
        → map node_of (pruned deep_of gone_of (flat_map (λ x. (x, depth) ∷ laid_deep children place_below deep (suc depth) (place_below x)) xs))
        ≡ flat_map (λ x. cond (not (gone x) || list_any (λ y. not (gone y)) (laid children place_below deep (place_below x))) (x ∷ laid_kept children place_below gone deep (place_below x)) (laid_kept children place_below gone deep (place_below x))) xs
    each below [] = refl
    each below (x ∷ xs) =
        let under = laid_deep children place_below deep (suc depth) (place_below x) in
        let kept = pruned deep_of gone_of under in
        let rest = flat_map (λ y. (y, depth) ∷ laid_deep children place_below deep (suc depth) (place_below y)) xs in
        let deeper = laid_at_least deep (suc depth) (place_below x) in
        let live : is_deeper deep_of gone_of depth kept ≡ list_any (λ y. not (gone y)) (laid children place_below deep (place_below x)) =
        deeper_is_live deep_of gone_of depth under ∙ all_below deep_of gone_of depth under deeper ∙ live_laid under ∙ ap (list_any (λ y. not (gone y))) (nodes_laid deep (suc depth) (place_below x)) in
        let parts = pruned-append deep_of gone_of depth ((x, depth) ∷ under) rest (omega arith, at_least_less deep_of gone_of depth (suc depth) under (omega arith) deeper) (pruned_not_deeper deep_of gone_of depth rest (not_above xs)) in
        ap (map node_of) parts
        ∙ map-append node_of (pruned deep_of gone_of ((x, depth) ∷ under)) (pruned deep_of gone_of rest)
        ∙ (λ i. (chosen (gone x) (is_deeper deep_of gone_of depth kept) x kept ∙ (λ j. cond (not (gone x) || live j) (x ∷ below (place_below x) j) (below (place_below x) j))) i ++ each below xs i)
