-- Lists in which each item stands before all later ones, by an order in which no two items stand before each other.
use Rattle.std.proofs.Common.{◌≡◌, ℕ, zero, suc, ◌+◌, ◌*◌, ◌<◌, ◌≤◌, Bool, true, false, not, ◌==◌, ◌↔◌, cond, IsTrue, All, AllPairs, Contains, List, [], ◌∷◌, length, get_or, refl, sym, ap, ap₂, subst, ◌∙◌, inl, inr, ◌⊎◌, Some, if◌then◌else◌, suc-mul, arith}
use Rattle.std.specs.List.{filter, find}
use Rattle.std.proofs.lemmas.Bool.{cond-true, cond-false, false≢true, eqb-false, not-true}
use Rattle.std.proofs.lemmas.List.Elements.{All-nil, All-cons, All-head, All-tail, All-contains, All-filter, All-weaker, filter_passes}
use Rattle.causal_model.proofs.Theory.Finds.{Contains-cons, found, filtered_pass_fewer}

module _ {X : Type 0} (R : X → X → Type 0) where
  pub AllPairs-nil : AllPairs R []
  AllPairs-nil i j d below inside = absurd (omega (arith, inside))

  pub AllPairs-head : (x : X) (xs : List X) → AllPairs R (x ∷ xs) → All (R x) xs
  AllPairs-head x xs rise k d l = rise zero (suc k) d (omega arith) (omega (arith, l))

  pub AllPairs-tail : (x : X) (xs : List X) → AllPairs R (x ∷ xs) → AllPairs R xs
  AllPairs-tail x xs rise i j d below inside = rise (suc i) (suc j) d (omega (arith, below)) (omega (arith, inside))

  -- what is found first stands before all others that pass
  abbrev IsLeast : (X → Bool) → X → X → Type 0
  IsLeast p x y = IsTrue (p y) → (y ≡ x) ⊎ R x y

  pub first_is_least : (p : X → Bool) (xs : List X) (x : X) → AllPairs R xs → find p xs ≡ Some x → All (λ y. IsTrue (p y) → (y ≡ x) ⊎ R x y) xs
  first_is_least p [] x rise e = All-nil (IsLeast p x)
  first_is_least p (z ∷ xs) x rise e = by (first_is_least p xs x (AllPairs-tail z xs rise)) (p z) refl e where
    by : (find p xs ≡ Some x → All (IsLeast p x) xs) → (b : Bool) → p z ≡ b → (if b then Some z else find p xs) ≡ Some x → All (IsLeast p x) (z ∷ xs)
    by later true passes f =
        let same : z ≡ x = cc in
        All-cons (IsLeast p x) z xs (λ _. inl same) (All-weaker (R z) (IsLeast p x) (λ y before _. inr (subst (λ v. R v y) same before)) xs (AllPairs-head z xs rise))
    by later false fails f = All-cons (IsLeast p x) z xs (λ t. absurd (false≢true (sym fails ∙ t))) (later f)

  -- what one test finds first another finds too, where nothing before it passes
  pub found_alike : (p q : X → Bool) (xs : List X) (x : X) → AllPairs R xs → find p xs ≡ Some x → q x ≡ true → ((y : X) → R y x → q y ≡ false) → find q xs ≡ Some x
  found_alike p q [] x rise e passes none = cc
  found_alike p q (z ∷ xs) x rise e passes none = by (found_alike p q xs x (AllPairs-tail z xs rise)) (p z) e where
    by : (find p xs ≡ Some x → q x ≡ true → ((y : X) → R y x → q y ≡ false) → find q xs ≡ Some x) → (b : Bool) → (if b then Some z else find p xs) ≡ Some x → find q (z ∷ xs) ≡ Some x
    by later true f = let same : z ≡ x = cc in cond-true (q z) (Some z) (find q xs) (ap q same ∙ passes) ∙ ap Some same
    by later false f =
        let before : R z x = All-contains (R z) xs x (AllPairs-head z xs rise) (found p xs x f).0 in
        cond-false (q z) (Some z) (find q xs) (none z before) ∙ later f passes none

  module _ (asymmetric : (x y : X) → R x y → R y x → ⊥) where
    Contains-head_or_tail : (y x : X) (xs : List X) → Contains (y ∷ xs) x → (y ≡ x) ⊎ Contains xs x
    Contains-head_or_tail y x xs has = by has.0 has.1 has.2 where
      by : (k : ℕ) → k < length (y ∷ xs) → get_or (y ∷ xs) k x ≡ x → (y ≡ x) ⊎ Contains xs x
      by zero l e = inl e
      by (suc k) l e = inr (k, omega (arith, l), e)

    -- of two rising lists with the same items the tails have the same items
    tails_alike : (x : X) (xs ys : List X) → AllPairs R (x ∷ xs) → ((m : X) → Contains (x ∷ xs) m → Contains (x ∷ ys) m) → (m : X) → Contains xs m → Contains ys m
    tails_alike x xs ys rise sub m has = elim (Contains-head_or_tail x m ys (sub m (Contains-cons x xs m has))) [
      | inl e ↦
          let before : R x m = All-contains (R x) xs m (AllPairs-head x xs rise) has in
          let itself : R x x = subst (R x) (sym e) before in
          absurd (asymmetric x x itself itself)
      | inr there ↦ there
    ]

    -- rising lists with the same items are equal
    pub equal_sets : (xs ys : List X) → AllPairs R xs → AllPairs R ys → ((m : X) → Contains xs m ↔ Contains ys m) → xs ≡ ys
    equal_sets [] [] up on same = refl
    equal_sets [] (y ∷ ys) up on same = absurd (omega (arith, ((same y).1 (zero, omega arith, refl)).1))
    equal_sets (x ∷ xs) [] up on same = absurd (omega (arith, ((same x).0 (zero, omega arith, refl)).1))
    equal_sets (x ∷ xs) (y ∷ ys) up on same =
        let heads : x ≡ y = elim (Contains-head_or_tail y x ys ((same x).0 (zero, omega arith, refl))) [
          | inl e ↦ sym e
          | inr late ↦ elim (Contains-head_or_tail x y xs ((same y).1 (zero, omega arith, refl))) [
            | inl e ↦ e
            | inr later ↦ absurd (asymmetric x y (All-contains (R x) xs y (AllPairs-head x xs up) later) (All-contains (R y) ys x (AllPairs-head y ys on) late))
          ]
        ] in
        let there : (m : X) → Contains (x ∷ xs) m → Contains (x ∷ ys) m = λ m has. subst (λ z. Contains (z ∷ ys) m) (sym heads) ((same m).0 has) in
        let back : (m : X) → Contains (x ∷ ys) m → Contains (x ∷ xs) m = λ m has. (same m).1 (subst (λ z. Contains (z ∷ ys) m) heads has) in
        let on_x : AllPairs R (x ∷ ys) = subst (λ z. AllPairs R (z ∷ ys)) (sym heads) on in
        ap₂ (λ z zs. z ∷ zs) heads (equal_sets xs ys (AllPairs-tail x xs up) (AllPairs-tail y ys on) (λ m. (tails_alike x xs ys up there m, tails_alike x ys xs on_x back m)))

-- ---- how many there can be

-- rising numbers above one number and up to another are at most as many as lie between
pub rising_numbers : {X : Type 0} (f : X → ℕ) (low high : ℕ) (xs : List X) → AllPairs (λ a b. f a < f b) xs → All (λ a. low < f a) xs → All (λ a. f a ≤ high) xs → low ≤ high → length xs + low ≤ high
rising_numbers f low high [] rise above below l = omega (arith, l)
rising_numbers f low high (x ∷ xs) rise above below l =
    let within : f x ≤ high = All-head (λ a. f a ≤ high) x xs below in
    let rest = rising_numbers f (f x) high xs (AllPairs-tail (λ a b. f a < f b) x xs rise) (AllPairs-head (λ a b. f a < f b) x xs rise) (All-tail (λ a. f a ≤ high) x xs below) within in
    omega (arith, rest, All-head (λ a. low < f a) x xs above)

length-filter_both : {X : Type 0} (p : X → Bool) (xs : List X) → length xs ≡ length (filter p xs) + length (filter (λ x. not (p x)) xs)
length-filter_both p [] = omega arith
length-filter_both p (x ∷ xs) =
    let rest = length-filter_both p xs in
    elim (p x) as (λ b. length (x ∷ xs) ≡ length (cond b (x ∷ filter p xs) (filter p xs)) + length (cond (not b) (x ∷ filter (λ y. not (p y)) xs) (filter (λ y. not (p y)) xs))) [
      | true ↦ omega (arith, rest)
      | false ↦ omega (arith, rest)
    ]

-- items of n classes, of each at most so many
pub classes_are_few : {X : Type 0} (f : X → ℕ) (most n : ℕ) (xs : List X) → All (λ x. f x < n) xs → ((k : ℕ) → length (filter (λ x. f x == k) xs) ≤ most) → length xs ≤ n * most
classes_are_few f most zero [] low each = omega arith
classes_are_few f most zero (x ∷ xs) low each = absurd (omega (arith, All-head (λ y. f y < zero) x xs low))
classes_are_few {X} f most (suc n) xs low each =
    let other : X → Bool = λ x. not (f x == n) in
    let others = filter other xs in
    let below : All (λ x. f x < n) others = λ k d l. omega (arith, All-filter other (λ x. f x < suc n) xs low k d l, eqb-false (f (get_or others k d)) n (not-true (f (get_or others k d) == n) (filter_passes other xs k d l))) in
    let rest = classes_are_few f most n others below (λ k. omega (arith, each k, filtered_pass_fewer other (λ x. f x == k) xs)) in
    omega (arith, rest, each n, length-filter_both (λ x. f x == n) xs, suc-mul n most)
