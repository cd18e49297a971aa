-- Rows with other items beside the same numbers.
use Rattle.std.proofs.Common.{◌≡◌, ℕ, cond, true, false, leb, List, [], ◌∷◌, map, refl, ap, ◌∙◌}
use Rattle.polog.specs.Order.{Each, place, in_order, items_of}
use Rattle.polog.proofs.Moves.{Apart}

module _ {E F : Type 0} (f : E → F) where
  abbrev pub with_items : List (ℕ × E) → List (ℕ × F)
  with_items rs = map (λ r. (r.0, f r.1)) rs

  place-items : (r : ℕ × E) (rs : List (ℕ × E)) → place (r.0, f r.1) (with_items rs) ≡ with_items (place r rs)
  place-items r [] = refl
  place-items r (s ∷ rs) = elim (leb r.0 s.0) as (λ b. cond b ((r.0, f r.1) ∷ with_items (s ∷ rs)) ((s.0, f s.1) ∷ place (r.0, f r.1) (with_items rs)) ≡ with_items (cond b (r ∷ s ∷ rs) (s ∷ place r rs))) [
    | true ↦ refl
    | false ↦ ap (λ xs. (s.0, f s.1) ∷ xs) (place-items r rs)
  ]

  in_order-items : (rs : List (ℕ × E)) → in_order (with_items rs) ≡ with_items (in_order rs)
  in_order-items [] = refl
  in_order-items (r ∷ rs) = ap (place (r.0, f r.1)) (in_order-items rs) ∙ place-items r (in_order rs)

  items-items : (rs : List (ℕ × E)) → map (λ r. r.1) (with_items rs) ≡ map f (items_of rs)
  items-items [] = refl
  items-items (r ∷ rs) = ap (λ xs. f r.1 ∷ xs) (items-items rs)

  pub items-in-order : (rs : List (ℕ × E)) → map (λ r. r.1) (in_order (with_items rs)) ≡ map f (items_of (in_order rs))
  items-in-order rs = ap (map (λ r. r.1)) (in_order-items rs) ∙ items-items (in_order rs)

  each-items : (a : ℕ) (rs : List (ℕ × E)) → Each (λ r. a ≡ r.0 → ⊥) rs → Each (λ r. a ≡ r.0 → ⊥) (with_items rs)
  each-items a [] each = tt
  each-items a (r ∷ rs) each = (each.0, each-items a rs each.1)

  pub apart-items : (rs : List (ℕ × E)) → Apart rs → Apart (with_items rs)
  apart-items [] apart = tt
  apart-items (r ∷ rs) apart = (each-items r.0 rs apart.0, apart-items rs apart.1)
