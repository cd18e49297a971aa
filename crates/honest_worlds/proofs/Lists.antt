-- Facts on lists, counts and least numbers that speak of no store.
use Rattle.std.proofs.Common.{◌≡◌, ℕ, zero, suc, ◌+◌, ◌*◌, ◌<◌, ◌≤◌, All, Bool, true, false, ◌&&◌, ◌==◌, cond, Contains, List, [], ◌∷◌, ◌++◌, length, map, get_or, refl, sym, ap, subst, ◌∙◌, inl, inr, ◌⊎◌, arith, Some, zero-add}
use Rattle.std.specs.List.{list_any, sum_by, count_by, range_with_len, slice_get, fold}
use Rattle.std.proofs.lemmas.Bool.{and_parts, and_from, or_left, or_right, or_cases, cases_Bool, cases_eq, cond-true, cond-false}
use Rattle.std.proofs.lemmas.List.Elements.{All-head, All-tail}
use Rattle.std.proofs.lemmas.List.Sums.{get_or-le-sum_by, sum_by-cons, sum_by-append}
use Rattle.causal_model.specs.Counts.{members}
use Rattle.causal_model.specs.Stability.{minimum}
use Rattle.causal_model.proofs.Theory.Lists.{cond-le-cond, fold_has}
use Rattle.causal_model.proofs.Theory.Finds.{Contains-cons, found}
use Rattle.causal_model.proofs.Delivery.Logs.{count_by-either}
use Rattle.std.proofs.lemmas.List.FromFn.{length-range_with_len, get_or-range_with_len}

-- ---- places and counts

pub split_at : {X : Type 0} (xs : List X) (x : X) → Contains xs x → (before : List X) × (later : List X) × (xs ≡ before ++ x ∷ later)
split_at {X} xs x has = from xs has.0 has.1 has.2 where
  from : (ys : List X) (i : ℕ) → i < length ys → get_or ys i x ≡ x → (before : List X) × (later : List X) × (ys ≡ before ++ x ∷ later)
  from [] i l e = absurd (omega (arith, l))
  from (y ∷ ys) zero l e = ([], ys, ap (λ z. z ∷ ys) e)
  from (y ∷ ys) (suc i) l e = let s = from ys i (omega (arith, l)) e in (y ∷ s.0, s.1, ap (λ zs. y ∷ zs) s.2)

-- the item that passes after so many that do
pub record Split {X : Type 0} (p : X → Bool) (xs : List X) (c : ℕ) : Type 0 where
  pub before : List X
  pub item : X
  pub later : List X
  pub whole : xs ≡ before ++ item ∷ later
  pub passes : p item ≡ true
  pub counted : count_by p before ≡ c

pub count_by-split : {X : Type 0} (p : X → Bool) (before : List X) (x : X) (later : List X) → count_by p (before ++ x ∷ later) ≡ count_by p before + (cond (p x) 1 0 + count_by p later)
count_by-split p before x later = omega (arith, sum_by-append (λ y. cond (p y) 1 0) before (x ∷ later), sum_by-cons (λ y. cond (p y) 1 0) x later)

pub split_count : {X : Type 0} (p : X → Bool) (xs : List X) (c : ℕ) → c < count_by p xs → Split p xs c
split_count p [] c l = absurd (omega (arith, l))
split_count p (y ∷ xs) zero l = elim (cases_Bool (p y)) [
  | inl t ↦ record { before = []; item = y; later = xs; whole = refl; passes = t; counted = refl }
  | inr f ↦
      let s = split_count p xs zero (omega (arith, l, sum_by-cons (λ z. cond (p z) 1 0) y xs, cond-false {A = ℕ} (p y) 1 0 f)) in
      record { before = y ∷ s.before; item = s.item; later = s.later; whole = ap (λ zs. y ∷ zs) s.whole; passes = s.passes; counted = omega (arith, s.counted, sum_by-cons (λ z. cond (p z) 1 0) y s.before, cond-false {A = ℕ} (p y) 1 0 f) }
]
split_count p (y ∷ xs) (suc c) l = elim (cases_Bool (p y)) [
  | inl t ↦
      let s = split_count p xs c (omega (arith, l, sum_by-cons (λ z. cond (p z) 1 0) y xs, cond-true {A = ℕ} (p y) 1 0 t)) in
      record { before = y ∷ s.before; item = s.item; later = s.later; whole = ap (λ zs. y ∷ zs) s.whole; passes = s.passes; counted = omega (arith, s.counted, sum_by-cons (λ z. cond (p z) 1 0) y s.before, cond-true {A = ℕ} (p y) 1 0 t) }
  | inr f ↦
      let s = split_count p xs (suc c) (omega (arith, l, sum_by-cons (λ z. cond (p z) 1 0) y xs, cond-false {A = ℕ} (p y) 1 0 f)) in
      record { before = y ∷ s.before; item = s.item; later = s.later; whole = ap (λ zs. y ∷ zs) s.whole; passes = s.passes; counted = omega (arith, s.counted, sum_by-cons (λ z. cond (p z) 1 0) y s.before, cond-false {A = ℕ} (p y) 1 0 f) }
]

-- fewer of a list's items pass a test that is stronger on them
pub count_by-le-on : {X : Type 0} (p q : X → Bool) (xs : List X) → All (λ x. p x ≡ true → q x ≡ true) xs → count_by p xs ≤ count_by q xs
count_by-le-on p q [] each = omega arith
count_by-le-on p q (x ∷ xs) each =
    omega (arith, sum_by-cons (λ y. cond (p y) 1 0) x xs, sum_by-cons (λ y. cond (q y) 1 0) x xs, cond-le-cond (p x) (q x) (All-head (λ y. p y ≡ true → q y ≡ true) x xs each), count_by-le-on p q xs (All-tail (λ y. p y ≡ true → q y ≡ true) x xs each))

pub count_by_none : {X : Type 0} (xs : List X) → count_by (λ x. false) xs ≡ 0
count_by_none [] = refl
count_by_none (x ∷ xs) = omega (arith, sum_by-cons (λ y. cond {A = ℕ} false 1 0) x xs, count_by_none xs)

-- Items that pass a test, each of one of some kinds. Where so many of each kind pass and its share more, at most c, then so
-- many pass and all shares more, at most c for each kind.
pub count_by-le-kinds : {X : Type 0} (kind : X → ℕ) (p : X → Bool) (share : ℕ → ℕ) (c : ℕ) (xs : List X) (ks : List ℕ) → All (λ k. count_by (λ x. (kind x == k) && p x) xs + share k ≤ c) ks
    → count_by (λ x. list_any (λ k. kind x == k) ks && p x) xs + sum_by share ks ≤ length ks * c
count_by-le-kinds kind p share c xs [] each = omega (arith, count_by_none xs)
count_by-le-kinds kind p share c xs (k ∷ ks) each =
    let E : ℕ → Type 0 = λ z. count_by (λ x. (kind x == z) && p x) xs + share z ≤ c in
    let split = count_by-either (λ x. list_any (λ z. kind x == z) (k ∷ ks) && p x) (λ x. (kind x == k) && p x) (λ x. list_any (λ z. kind x == z) ks && p x) xs (λ x t.
    let both = and_parts (list_any (λ z. kind x == z) (k ∷ ks)) (p x) t in
    elim (or_cases (kind x == k) (list_any (λ z. kind x == z) ks) both.0) [
      | inl here ↦ or_left _ _ (and_from _ _ here both.1)
      | inr later ↦ or_right _ _ (and_from _ _ later both.1)
    ]) in
    omega (arith, split, sum_by-cons share k ks, All-head E k ks each, count_by-le-kinds kind p share c xs ks (All-tail E k ks each))

-- a sum has each of its terms
pub item-le-sum_by : {X : Type 0} (f : X → ℕ) (xs : List X) (x : X) → Contains xs x → f x ≤ sum_by f xs
item-le-sum_by f xs x has = subst (λ y. f y ≤ sum_by f xs) has.2 (get_or-le-sum_by f xs has.0 x has.1)

pub sum_by-add : {X : Type 0} (f g : X → ℕ) (xs : List X) → sum_by (λ x. f x + g x) xs ≡ sum_by f xs + sum_by g xs
sum_by-add f g [] = refl
sum_by-add f g (x ∷ xs) = omega (arith, sum_by-cons (λ y. f y + g y) x xs, sum_by-cons f x xs, sum_by-cons g x xs, sum_by-add f g xs)

-- a number below n at which a test passes, or none
pub first_passing : (p : ℕ → Bool) (n : ℕ) → ((q : ℕ) × (q < n) × (p q ≡ true)) ⊎ ((q : ℕ) → q < n → p q ≡ false)
first_passing p zero = inr (λ q l. absurd (omega (arith, l)))
first_passing p (suc n) = elim (cases_Bool (p n)) [
  | inl t ↦ inl (n, omega arith, t)
  | inr f ↦ elim (first_passing p n) [
    | inl found ↦ inl (found.0, omega (arith, found.1), found.2)
    | inr none ↦ inr (λ q l. elim (cases_eq q n) [ inl e ↦ ap p e ∙ f | inr ne ↦ none q (omega (arith, l, ne)) ])
  ]
]

-- ---- least numbers

pub minimum-range-le : (f g : ℕ → ℕ) (a n : ℕ) → ((y : ℕ) → a ≤ y → y < a + n → f y ≤ g y) → minimum (map f (range_with_len a n)) ≤ minimum (map g (range_with_len a n))
minimum-range-le f g a zero each = omega arith
minimum-range-le f g a (suc zero) each = each a (omega arith) (omega arith)
minimum-range-le f g a (suc (suc n)) each = omega (arith, each a (omega arith) (omega arith), minimum-range-le f g (a + 1) (suc n) (λ y low high. each y (omega (arith, low)) (omega (arith, high))))

-- the least of numbers, none of which is below c, is not
pub least_is_no_less : (n c : ℕ) (f : ℕ → ℕ) → 0 < n → ((v : ℕ) → v < n → c ≤ f v) → c ≤ minimum (map f (members n))
least_is_no_less n c f some each = omega (arith, minimum-range-le (λ _. c) f 0 n (λ v _ high. each v (omega (arith, high))), constant 0 n some) where
  constant : (a k : ℕ) → 0 < k → minimum (map (λ _. c) (range_with_len a k)) ≡ c
  constant a zero some = absurd (omega (arith, some))
  constant a (suc zero) some = refl
  constant a (suc (suc k)) some = omega (arith, constant (a + 1) (suc k) (omega arith))

-- ---- fronts of one list

-- of two fronts one is a front of the other
pub prefixes : {X : Type 0} (xs ys zs ws : List X) → xs ++ ys ≡ zs ++ ws → ((d : List X) × (zs ≡ xs ++ d) × (ys ≡ d ++ ws)) ⊎ ((d : List X) × (xs ≡ zs ++ d) × (ws ≡ d ++ ys))
prefixes [] ys zs ws e = inl (zs, refl, e)
prefixes (x ∷ xs) ys [] ws e = inr (x ∷ xs, refl, sym e)
prefixes (x ∷ xs) ys (z ∷ zs) ws e =
    let same : x ≡ z = cc in
    let back : z ≡ x = sym same in
    let tails : xs ++ ys ≡ zs ++ ws = cc in
    elim (prefixes xs ys zs ws tails) [
      | inl d ↦ inl (d.0, (λ i. back i ∷ d.1 i), d.2)
      | inr d ↦ inr (d.0, (λ i. same i ∷ d.1 i), d.2)
    ]

pub place_of : {X : Type 0} (xs : List X) (i : ℕ) (x : X) → i < length xs → get_or xs i x ≡ x → slice_get xs i ≡ Some x
place_of [] i x l e = absurd (omega (arith, l))
place_of (y ∷ xs) zero x l e = ap Some e
place_of (y ∷ xs) (suc i) x l e = place_of xs i x (omega (arith, l)) e

-- what stands before another is in the front that ends with it, where that is at one place alone
pub in_front_of : {X : Type 0} (xs : List X) (i j : ℕ) (a b : X) → i < j → slice_get xs i ≡ Some a → slice_get xs j ≡ Some b
    → (front : List X) × (back : List X) × (xs ≡ front ++ b ∷ back) × Contains front a
in_front_of [] i j a b l at_a at_b = cc
in_front_of (x ∷ xs) zero zero a b l at_a at_b = absurd (omega (arith, l))
in_front_of (x ∷ xs) zero (suc j) a b l at_a at_b =
    let same : x ≡ a = cc in
    let s = cut_at xs j at_b in
    (x ∷ s.0, s.1, ap (λ ys. x ∷ ys) s.2, (zero, omega arith, same)) where
      cut_at : (ys : List _) (k : ℕ) → slice_get ys k ≡ Some b → (front : List _) × (back : List _) × (ys ≡ front ++ b ∷ back)
      cut_at [] k e = cc
      cut_at (y ∷ ys) zero e = let same : y ≡ b = cc in ([], ys, ap (λ z. z ∷ ys) same)
      cut_at (y ∷ ys) (suc k) e = let s = cut_at ys k e in (y ∷ s.0, s.1, ap (λ zs. y ∷ zs) s.2)
in_front_of (x ∷ xs) (suc i) zero a b l at_a at_b = absurd (omega (arith, l))
in_front_of (x ∷ xs) (suc i) (suc j) a b l at_a at_b =
    let s = in_front_of xs i j a b (omega (arith, l)) at_a at_b in
    (x ∷ s.0, s.1, ap (λ ys. x ∷ ys) s.2, Contains-cons x s.0 a s.3)

-- ---- folds

-- what a fold keeps, and what comes of it at one of the items and then stays, is there after the fold
pub fold_reaches : {A B : Type 0} (J Q : B → Type 0) (f : B → A → B) (xs : List A) (x : A) → Contains xs x → All (λ y. (b : B) → J b → J (f b y)) xs → All (λ y. (b : B) → Q b → Q (f b y)) xs
    → ((b : B) → J b → Q (f b x)) → (b : B) → J b → Q (fold f b xs)
fold_reaches {A} {B} J Q f xs x has keeps stays here b is = from xs has.0 has.1 has.2 keeps stays b is where
  from : (ys : List A) (i : ℕ) → i < length ys → get_or ys i x ≡ x → All (λ y. (c : B) → J c → J (f c y)) ys → All (λ y. (c : B) → Q c → Q (f c y)) ys → (c : B) → J c → Q (fold f c ys)
  from [] i l e k s c j = absurd (omega (arith, l))
  from (y ∷ ys) zero l e k s c j = fold_has Q f (f c y) ys (subst (λ z. Q (f c z)) (sym e) (here c j)) (All-tail (λ z. (d : B) → Q d → Q (f d z)) y ys s)
  from (y ∷ ys) (suc i) l e k s c j = from ys i (omega (arith, l)) e (All-tail (λ z. (d : B) → J d → J (f d z)) y ys k) (All-tail (λ z. (d : B) → Q d → Q (f d z)) y ys s) (f c y) (All-head (λ z. (d : B) → J d → J (f d z)) y ys k c j)

pub member_there : (n r : ℕ) → r < n → Contains (members n) r
member_there n r l = (r, omega (arith, l, length-range_with_len 0 n), get_or-range_with_len 0 n r r l ∙ zero-add r)

-- ---- maps

pub from_map : {X Y : Type 0} (f : X → Y) (xs : List X) (y : Y) → Contains (map f xs) y → (x : X) × (Contains xs x × (f x ≡ y))
from_map {X} f xs y has = from xs has.0 has.1 has.2 where
  from : (zs : List X) (i : ℕ) → i < length (map f zs) → get_or (map f zs) i y ≡ y → (x : X) × (Contains zs x × (f x ≡ y))
  from [] i low at = absurd (omega (arith, low))
  from (z ∷ zs) zero low at = (z, ((zero, omega arith, refl), at))
  from (z ∷ zs) (suc i) low at = let rest = from zs i (omega (arith, low)) at in (rest.0, ((suc rest.1.0.0, omega (arith, rest.1.0.1), rest.1.0.2), rest.1.1))
