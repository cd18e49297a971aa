-- A sweep over rows that moves those that stay to the front.
use Rattle.std.proofs.Common.{◌≡◌, ℕ, ◌+◌, ◌<◌, ◌≤◌, zero, suc, Bool, true, false, ◌||◌, List, [], ◌∷◌, length, take, get_or, inl, inr, refl, sym, ap, ◌∙◌, arith}
use Rattle.std.specs.List.{swap, SwappedAt, list_any}
use Rattle.std.proofs.lemmas.Bool.{false≢true}
use Rattle.std.proofs.lemmas.List.Edits.{swapped_from_swap, swap_is}
use Rattle.std.proofs.lemmas.List.Filters.{FiltersInPlace, FiltersInPlace-more_no}
use Rattle.polog.specs.Order.{Each}
use Rattle.polog.proofs.Orders.{filter-all, told}

module _ {X : Type 0} where
  -- within a list what stands past its end makes no difference
  pub get-any : (xs : List X) (i : ℕ) (d e : X) → i < length xs → get_or xs i d ≡ get_or xs i e
  get-any [] i d e l = absurd (omega (arith, l))
  get-any (x ∷ xs) zero d e l = refl
  get-any (x ∷ xs) (suc i) d e l = get-any xs i d e (omega (arith, l))

  pub swapped : (xs : List X) (i j : ℕ) → i < length xs → j < length xs → SwappedAt xs (swap xs i j) i j
  swapped xs i j l m = (
    λ d. (swapped_from_swap xs (swap xs i j) i j d l m refl).0,
    λ d. (swapped_from_swap xs (swap xs i j) i j d l m refl).1,
    λ k d. (swapped_from_swap xs (swap xs i j) i j d l m refl).2 k,
    λ d. sym (swap_is xs i j d l m),
  )

  module _ (p : X → Bool) (xs : List X) where
    -- all in front stay
    pub begins : (k : ℕ) → k ≤ length xs → Each (λ x. p x ≡ true) (take k xs) → FiltersInPlace p xs xs k k
    begins k l each = record { front = sym (filter-all p (take k xs) each); rest = refl; behind = omega arith; within = l; long = refl }

    -- the next fails
    pub passes : (ys : List X) (k i : ℕ) → FiltersInPlace p xs ys k i → i < length ys → (d : X) → p (get_or ys i d) ≡ false → FiltersInPlace p xs ys k (i + 1)
    passes ys k i so_far inside d goes = FiltersInPlace-more_no so_far inside goes (get-any ys i d (get_or ys i d) inside)

-- ---- what passes a test

module _ {X : Type 0} (p : X → Bool) where
  pub any-at : (xs : List X) (k : ℕ) (d : X) → k < length xs → p (get_or xs k d) ≡ true → list_any p xs ≡ true
  any-at [] k d l t = absurd (omega (arith, l))
  any-at (x ∷ xs) zero d l t = ap (λ b. b || list_any p xs) t
  any-at (x ∷ xs) (suc k) d l t = ap (λ b. p x || b) (any-at xs k d (omega (arith, l)) t) ∙ either (p x) where
    either : (b : Bool) → (b || true) ≡ true
    either true = refl
    either false = refl

  pub none-any : (xs : List X) → Each (λ x. p x ≡ false) xs → list_any p xs ≡ false
  none-any [] each = refl
  none-any (x ∷ xs) each = λ i. each.0 i || none-any xs each.1 i

  pub any-none : (xs : List X) → list_any p xs ≡ false → Each (λ x. p x ≡ false) xs
  any-none [] none = tt
  any-none (x ∷ xs) none = elim (told (p x)) [
    | inl t ↦ absurd (false≢true (sym none ∙ ap (λ b. b || list_any p xs) t))
    | inr t ↦ (t, any-none xs (sym (ap (λ b. b || list_any p xs) t) ∙ none))
  ]
