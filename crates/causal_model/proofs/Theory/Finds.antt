-- What is found in a list, and what a filter leaves of one.
use Rattle.std.proofs.Common.{◌≡◌, ℕ, zero, suc, ◌<◌, ◌≤◌, Bool, true, false, cond, All, Contains, List, [], ◌∷◌, length, get_or, refl, sym, ap, subst, ◌∙◌, Some, None, if◌then◌else◌, arith}
use Rattle.std.specs.List.{filter, find}
use Rattle.std.proofs.lemmas.Bool.{cond-false}
use Rattle.std.proofs.lemmas.List.Elements.{All-nil, All-cons, All-head, All-tail}

module _ {X : Type 0} where
  pub Contains-cons : (y : X) (xs : List X) (x : X) → Contains xs x → Contains (y ∷ xs) x
  Contains-cons y xs x has = (suc has.0, omega (arith, has.1), has.2)

  module _ (p : X → Bool) where
    -- what is found is there, and passes
    pub found : (xs : List X) (x : X) → find p xs ≡ Some x → Contains xs x × (p x ≡ true)
    found [] x e = cc
    found (y ∷ xs) x e = by (found xs x) (p y) refl e where
      by : (find p xs ≡ Some x → Contains xs x × (p x ≡ true)) → (b : Bool) → p y ≡ b → (if b then Some y else find p xs) ≡ Some x → Contains (y ∷ xs) x × (p x ≡ true)
      by later true passes f = let same : y ≡ x = cc in ((zero, omega arith, same), subst (λ z. p z ≡ true) same passes)
      by later false fails f = let rest = later f in (Contains-cons y xs x rest.0, rest.1)

    pub none_found : (xs : List X) → All (λ x. p x ≡ false) xs → find p xs ≡ None
    none_found [] none = refl
    none_found (y ∷ xs) none = cond-false (p y) (Some y) (find p xs) (All-head (λ x. p x ≡ false) y xs none) ∙ none_found xs (All-tail (λ x. p x ≡ false) y xs none)

    pub none_passes : (xs : List X) → find p xs ≡ None → All (λ x. p x ≡ false) xs
    none_passes [] e = All-nil (λ x. p x ≡ false)
    none_passes (y ∷ xs) e = by (none_passes xs) (p y) refl e where
      by : (find p xs ≡ None → All (λ x. p x ≡ false) xs) → (b : Bool) → p y ≡ b → (if b then Some y else find p xs) ≡ None → All (λ x. p x ≡ false) (y ∷ xs)
      by later true passes f = cc
      by later false fails f = All-cons (λ x. p x ≡ false) y xs fails (later f)

    -- a filter leaves no more, and fewer where something fails it
    length-filter-le : (xs : List X) → length (filter p xs) ≤ length xs
    length-filter-le [] = omega arith
    length-filter-le (x ∷ xs) = elim (p x) as (λ b. length (cond b (x ∷ filter p xs) (filter p xs)) ≤ length (x ∷ xs)) [
      | true ↦ omega (arith, length-filter-le xs)
      | false ↦ omega (arith, length-filter-le xs)
    ]

    fewer_at : (xs : List X) (k : ℕ) (d : X) → k < length xs → p (get_or xs k d) ≡ false → length (filter p xs) < length xs
    fewer_at [] k d l fails = absurd (omega (arith, l))
    fewer_at (x ∷ xs) zero d l fails = omega (arith, ap length (cond-false (p x) (x ∷ filter p xs) (filter p xs) fails), length-filter-le xs)
    fewer_at (x ∷ xs) (suc k) d l fails =
        let fewer = fewer_at xs k d (omega (arith, l)) fails in
        elim (p x) as (λ b. length (cond b (x ∷ filter p xs) (filter p xs)) < length (x ∷ xs)) [ true ↦ omega (arith, fewer) | false ↦ omega (arith, fewer) ]

    pub fewer_pass : (xs : List X) (x : X) → Contains xs x → p x ≡ false → length (filter p xs) < length xs
    fewer_pass xs x has fails = fewer_at xs has.0 x has.1 (subst (λ y. p y ≡ false) (sym has.2) fails)

  -- what passes both a filter and a test is no more than what passes the test
  pub filtered_pass_fewer : (p q : X → Bool) (xs : List X) → length (filter q (filter p xs)) ≤ length (filter q xs)
  filtered_pass_fewer p q [] = omega arith
  filtered_pass_fewer p q (x ∷ xs) =
      let rest = filtered_pass_fewer p q xs in
      elim (p x) as (λ b. length (filter q (cond b (x ∷ filter p xs) (filter p xs))) ≤ length (cond (q x) (x ∷ filter q xs) (filter q xs))) [
        | true ↦ elim (q x) as (λ b. length (cond b (x ∷ filter q (filter p xs)) (filter q (filter p xs))) ≤ length (cond b (x ∷ filter q xs) (filter q xs))) [ true ↦ omega (arith, rest) | false ↦ rest ]
        | false ↦ elim (q x) as (λ b. length (filter q (filter p xs)) ≤ length (cond b (x ∷ filter q xs) (filter q xs))) [ true ↦ omega (arith, rest) | false ↦ rest ]
      ]
