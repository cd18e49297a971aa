-- Items of a list: tests that some of them pass, pairs of them, and orders that go forward in it.
use Rattle.std.proofs.Common.{◌≡◌, ℕ, ◌<◌, Bool, true, false, ◌&&◌, ◌||◌, All, AllPairs, Contains, List, [], ◌∷◌, ◌++◌, cond, length, map, get_or, suc, refl, sym, ap, ◌∙◌, inl, inr, arith}
use Rattle.std.specs.List.{filter, list_any}
use Rattle.std.proofs.lemmas.Bool.{cases_eq, cases_lt, both_ways, false_from_ne_true}
use Rattle.std.proofs.lemmas.List.{length-map, get_or-map}
use Rattle.std.proofs.lemmas.List.Elements.{All-append, All-map, All-head, All-tail}
use Rattle.std.proofs.lemmas.List.Folds.{Any-from_list_any, list_any-from_Any}
use Rattle.std.proofs.lemmas.List.Kept.{AllPairs-cons}

pub Contains-map : {X Y : Type 0} (f : X → Y) (xs : List X) (x : X) → Contains xs x → Contains (map f xs) (f x)
Contains-map f xs x has = (has.0, omega (arith, length-map xs f, has.1), get_or-map f xs has.0 x (f x) has.1 ∙ ap f has.2)

-- ---- tests of some item

pub list_any-map : {X Y : Type 0} (p : Y → Bool) (f : X → Y) (xs : List X) → list_any p (map f xs) ≡ list_any (λ x. p (f x)) xs
list_any-map p f [] = refl
list_any-map p f (x ∷ xs) = ap (λ b. p (f x) || b) (list_any-map p f xs)

pub list_any_agree : {X : Type 0} (p q : X → Bool) → ((x : X) → p x ≡ q x) → (xs : List X) → list_any p xs ≡ list_any q xs
list_any_agree p q same [] = refl
list_any_agree p q same (x ∷ xs) = rw (same x, list_any_agree p q same xs) refl

pub list_any-filter : {X : Type 0} (p q : X → Bool) (xs : List X) → list_any q (filter p xs) ≡ list_any (λ x. p x && q x) xs
list_any-filter p q [] = refl
list_any-filter p q (x ∷ xs) = by (p x) (list_any-filter p q xs) where
  by : (b : Bool) → list_any q (filter p xs) ≡ list_any (λ y. p y && q y) xs → list_any q (cond b (x ∷ filter p xs) (filter p xs)) ≡ ((b && q x) || list_any (λ y. p y && q y) xs)
  by true rest = ap (λ c. q x || c) rest
  by false rest = rest

-- some item passes a test and one of two others exactly where some passes it and the one, or it and the other
pub list_any-or : {X : Type 0} (p q r : X → Bool) (xs : List X) → list_any (λ x. (p x || q x) && r x) xs ≡ (list_any (λ x. p x && r x) xs || list_any (λ x. q x && r x) xs)
list_any-or p q r [] = refl
list_any-or p q r (x ∷ xs) = ap (λ b. ((p x || q x) && r x) || b) (list_any-or p q r xs) ∙ one (p x) (q x) (r x) (list_any (λ y. p y && r y) xs) (list_any (λ y. q y && r y) xs) where
  one : (a b c s t : Bool) → (((a || b) && c) || (s || t)) ≡ (((a && c) || s) || ((b && c) || t))
  one true b true s t = refl
  one true true false s t = refl
  one true false false s t = refl
  one false true true true t = refl
  one false true true false t = refl
  one false true false s t = refl
  one false false c s t = refl

-- an item that passes, where some item does
pub item_from_list_any : {X : Type 0} (p : X → Bool) (xs : List X) → list_any p xs ≡ true → (x : X) × (Contains xs x × (p x ≡ true))
item_from_list_any p xs t = let some = Any-from_list_any p xs t in (some.1, ((some.0, some.2, some.3), some.4))

pub list_any-from_item : {X : Type 0} (p : X → Bool) (xs : List X) (x : X) → Contains xs x → p x ≡ true → list_any p xs ≡ true
list_any-from_item p xs x has t = list_any-from_Any p xs (has.0, x, has.1, has.2, t)

-- where no item passes, an item that is there fails
pub no_item : {X : Type 0} (p : X → Bool) (xs : List X) (x : X) → list_any p xs ≡ false → Contains xs x → p x ≡ false
no_item p xs x none has = false_from_ne_true (p x) (λ t. both_ways (list_any p xs) none (list_any-from_item p xs x has t))

pub list_any-from_none : {X : Type 0} (p : X → Bool) (xs : List X) → ((x : X) → Contains xs x → p x ≡ true → ⊥) → list_any p xs ≡ false
list_any-from_none p xs none = false_from_ne_true (list_any p xs) (λ t. let some = item_from_list_any p xs t in none some.0 some.1.0 some.1.1)

pub same_tests : (a b : Bool) → (a ≡ true → b ≡ true) → (b ≡ true → a ≡ true) → a ≡ b
same_tests true b forth back = sym (forth refl)
same_tests false true forth back = back refl
same_tests false false forth back = refl

-- two tests that each pass some item where the other does
pub list_any-same : {X : Type 0} (p q : X → Bool) (xs : List X) → ((x : X) → Contains xs x → p x ≡ true → list_any q xs ≡ true) → ((x : X) → Contains xs x → q x ≡ true → list_any p xs ≡ true) → list_any p xs ≡ list_any q xs
list_any-same p q xs forth back = same_tests (list_any p xs) (list_any q xs) (λ t. let some = item_from_list_any p xs t in forth some.0 some.1.0 some.1.1) (λ t. let some = item_from_list_any q xs t in back some.0 some.1.0 some.1.1)

-- ---- pairs of items

pub AllPairs-append : {X : Type 0} (R : X → X → Type 0) (xs ys : List X) → AllPairs R xs → AllPairs R ys → All (λ x. All (R x) ys) xs → AllPairs R (xs ++ ys)
AllPairs-append R [] ys pairs more across = more
AllPairs-append R (x ∷ xs) ys pairs more across =
    AllPairs-cons R x (xs ++ ys) (All-append (R x) xs ys (λ j d l. pairs 0 (suc j) d (omega arith) (omega arith)) (All-head (λ z. All (R z) ys) x xs across))
    (AllPairs-append R xs ys (λ i j d l within. pairs (suc i) (suc j) d (omega arith) (omega arith)) more (All-tail (λ z. All (R z) ys) x xs across))

pub AllPairs-map : {X Y : Type 0} (R : Y → Y → Type 0) (f : X → Y) (xs : List X) → AllPairs (λ a b. R (f a) (f b)) xs → AllPairs R (map f xs)
AllPairs-map R f [] pairs = λ i j d l within. absurd (omega arith)
AllPairs-map R f (x ∷ xs) pairs =
    AllPairs-cons R (f x) (map f xs) (All-map (R (f x)) f xs (λ j d l. pairs 0 (suc j) d (omega arith) (omega arith))) (AllPairs-map R f xs (λ i j d l within. pairs (suc i) (suc j) d (omega arith) (omega arith)))

-- ---- where no item is before itself or before one at an earlier place, what is before an item stands at an earlier place

module _ {X : Type 0} (before : X → X → Bool) (xs : List X) (irreflexive : (x : X) → before x x ≡ false) (forward : AllPairs (λ a b. before b a ≡ false) xs) where
  pub before_is_earlier : (i j : ℕ) (a b : X) → i < length xs → get_or xs i a ≡ a → get_or xs j a ≡ b → before a b ≡ true → i < j
  before_is_earlier i j a b l at_a at_b ab = elim (cases_lt i j) [
    | inl early ↦ early
    | inr past ↦ absurd (both_ways (before a b) (elim (cases_eq j i) [
      | inl e ↦ ap (before a) (sym at_b ∙ ap (λ k. get_or xs k a) e ∙ at_a) ∙ irreflexive a
      | inr ne ↦ ap (λ z. before z b) (sym at_a) ∙ ap (before (get_or xs i a)) (sym at_b) ∙ forward j i a (omega (arith, past, ne)) l
    ]) ab)
  ]
