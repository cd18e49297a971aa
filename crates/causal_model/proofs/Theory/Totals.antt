-- Sums of integers over lists: of what passes a test, of sums, and over lists of the same items.
use Rattle.std.proofs.Common.{◌≡◌, ◌↔◌, Bool, true, false, not, All, Contains, List, [], ◌∷◌, ◌++◌, map, cond, refl, sym, ap, ◌∙◌, inl, inr, if◌then◌else◌}
use Rattle.std.specs.Prelude.{AllPairs, ℤ, pos, ◌+ℤ◌}
use Rattle.std.specs.List.{filter, fold, slice_index_or}
use Rattle.std.proofs.Math.IntN.{+ℤ_idl, +ℤ_idr, +ℤ_assoc, +ℤ_comm}
use Rattle.std.proofs.lemmas.Bool.{cond-true, cond-false, not-true, not_from_true, not_from_false, both_ways}
use Rattle.std.proofs.lemmas.List.Elements.{All-contains, All-head, All-tail, filter_passes}
use Rattle.std.proofs.lemmas.List.Folds.{fold-map}
use Rattle.std.proofs.lemmas.List.Kept.{AllPairs-filter}
use Rattle.std.proofs.lemmas.List.Sums.{fold-append}
use Rattle.causal_model.proofs.Theory.Members.{no_member, member_here, member_later, member_cases, member_of_filter, member_from_filter, pairs_head, pairs_tail}

-- what items add in all
abbrev pub sum_of : {X : Type 0} → (X → ℤ) → List X → ℤ
sum_of f xs = fold (λ sum x. sum +ℤ f x) (pos 0) xs

pub sum_from : {X : Type 0} (f : X → ℤ) (s : ℤ) (xs : List X) → fold (λ sum x. sum +ℤ f x) s xs ≡ s +ℤ sum_of f xs
sum_from f s [] = sym (+ℤ_idr s)
sum_from f s (x ∷ xs) =
    sum_from f (s +ℤ f x) xs ∙ +ℤ_assoc s (f x) (sum_of f xs)
    ∙ ap (λ z. s +ℤ z) (sym (sum_from f (f x) xs) ∙ ap (λ z. fold (λ sum y. sum +ℤ f y) z xs) (sym (+ℤ_idl (f x))))

pub sum_of-cons : {X : Type 0} (f : X → ℤ) (x : X) (xs : List X) → sum_of f (x ∷ xs) ≡ f x +ℤ sum_of f xs
sum_of-cons f x xs = ap (λ z. fold (λ sum y. sum +ℤ f y) z xs) (+ℤ_idl (f x)) ∙ sum_from f (f x) xs

pub sum_of-append : {X : Type 0} (f : X → ℤ) (xs ys : List X) → sum_of f (xs ++ ys) ≡ sum_of f xs +ℤ sum_of f ys
sum_of-append f xs ys = fold-append (λ sum x. sum +ℤ f x) (pos 0) xs ys ∙ sum_from f (sum_of f xs) ys

pub sum_of-map : {X Y : Type 0} (g : Y → X) (f : X → ℤ) (ys : List Y) → sum_of f (map g ys) ≡ sum_of (λ y. f (g y)) ys
sum_of-map g f ys = fold-map (λ sum x. sum +ℤ f x) g (pos 0) ys

-- ---- sums of what passes a test

-- what an item adds where it passes
abbrev pub where_passes : {X : Type 0} → (X → Bool) → (X → ℤ) → X → ℤ
where_passes p f x = if p x then f x else pos 0

pub sum_of-filter : {X : Type 0} (p : X → Bool) (f : X → ℤ) (xs : List X) → sum_of f (filter p xs) ≡ sum_of (where_passes p f) xs
sum_of-filter p f [] = refl
sum_of-filter p f (x ∷ xs) = by (p x) (sum_of-filter p f xs) ∙ sym (sum_of-cons (where_passes p f) x xs) where
  by : (b : Bool) → sum_of f (filter p xs) ≡ sum_of (where_passes p f) xs → sum_of f (cond b (x ∷ filter p xs) (filter p xs)) ≡ (if b then f x else pos 0) +ℤ sum_of (where_passes p f) xs
  by true rest = sum_of-cons f x (filter p xs) ∙ ap (λ z. f x +ℤ z) rest
  by false rest = rest ∙ sym (+ℤ_idl (sum_of (where_passes p f) xs))

-- a sum of two shares of each item
pub sum_of-split : {X : Type 0} (f g h : X → ℤ) → ((x : X) → f x ≡ g x +ℤ h x) → (xs : List X) → sum_of f xs ≡ sum_of g xs +ℤ sum_of h xs
sum_of-split f g h each [] = refl
sum_of-split f g h each (x ∷ xs) =
    sum_of-cons f x xs ∙ (λ i. each x i +ℤ sum_of-split f g h each xs i) ∙ swap (g x) (h x) (sum_of g xs) (sum_of h xs)
    ∙ (λ i. sym (sum_of-cons g x xs) i +ℤ sym (sum_of-cons h x xs) i) where
      swap : (a b c d : ℤ) → (a +ℤ b) +ℤ (c +ℤ d) ≡ (a +ℤ c) +ℤ (b +ℤ d)
      swap a b c d =
          +ℤ_assoc a b (c +ℤ d) ∙ ap (λ z. a +ℤ z) (sym (+ℤ_assoc b c d) ∙ ap (λ z. z +ℤ d) (+ℤ_comm b c) ∙ +ℤ_assoc c b d) ∙ sym (+ℤ_assoc a c (b +ℤ d))

pub sum_of_zeros : {X : Type 0} (f : X → ℤ) (xs : List X) → All (λ x. f x ≡ pos 0) xs → sum_of f xs ≡ pos 0
sum_of_zeros f [] each = refl
sum_of_zeros f (x ∷ xs) each = sum_of-cons f x xs ∙ (λ i. All-head (λ y. f y ≡ pos 0) x xs each i +ℤ sum_of_zeros f xs (All-tail (λ y. f y ≡ pos 0) x xs each) i)

-- ---- lists of the same items

filter_all : {X : Type 0} (p : X → Bool) (xs : List X) → All (λ x. p x ≡ true) xs → filter p xs ≡ xs
filter_all p [] each = refl
filter_all p (x ∷ xs) each = cond-true (p x) (x ∷ filter p xs) (filter p xs) (All-head (λ y. p y ≡ true) x xs each) ∙ ap (λ ys. x ∷ ys) (filter_all p xs (All-tail (λ y. p y ≡ true) x xs each))

abbrev pub Unlike : {X : Type 0} → (X → X → Bool) → X → X → Type 0
Unlike alike a b = alike a b ≡ false

-- no two items are alike
abbrev pub Apart : {X : Type 0} → (X → X → Bool) → List X → Type 0
Apart alike xs = AllPairs (Unlike alike) xs

-- by a test that is symmetric and that each item passes with itself
module _ {X : Type 0} (alike : X → X → Bool) (itself : (x : X) → alike x x ≡ true) (back : (x y : X) → alike x y ≡ alike y x) (f : X → ℤ) where
  -- a sum is that of an item and of those unlike it
  sum_without : (x : X) (ys : List X) → Apart alike ys → Contains ys x → sum_of f ys ≡ f x +ℤ sum_of f (filter (λ y. not (alike x y)) ys)
  sum_without x [] apart h = absurd (no_member x h)
  sum_without x (y ∷ ys) apart h =
      let unlike : X → Bool = λ z. not (alike x z) in
      elim (member_cases y ys x h) [
        | inl e ↦
            let far : All (λ z. unlike z ≡ true) ys = λ k d l. not_from_false _ (ap (λ z. alike z (slice_index_or ys k d)) (sym e) ∙ pairs_head (Unlike alike) y ys apart k d l) in
            let gone : unlike y ≡ false = not_from_true (alike x y) (ap (alike x) e ∙ itself x) in
            sum_of-cons f y ys ∙ (λ i. f (e i) +ℤ sum_of f ys)
            ∙ ap (λ zs. f x +ℤ sum_of f zs) (sym (cond-false (unlike y) (y ∷ filter unlike ys) (filter unlike ys) gone ∙ filter_all unlike ys far))
        | inr later ↦
            let stays : unlike y ≡ true = not_from_false (alike x y) (back x y ∙ All-contains (Unlike alike y) ys x (pairs_head (Unlike alike) y ys apart) later) in
            let rest : List X = filter unlike ys in
            sum_of-cons f y ys ∙ ap (λ z. f y +ℤ z) (sum_without x ys (pairs_tail (Unlike alike) y ys apart) later) ∙ sym (+ℤ_assoc (f y) (f x) (sum_of f rest))
            ∙ ap (λ z. z +ℤ sum_of f rest) (+ℤ_comm (f y) (f x)) ∙ +ℤ_assoc (f x) (f y) (sum_of f rest) ∙ ap (λ z. f x +ℤ z) (sym (sum_of-cons f y rest))
            ∙ ap (λ zs. f x +ℤ sum_of f zs) (sym (cond-true (unlike y) (y ∷ rest) rest stays))
      ]

  -- lists with the same items, of which no two are alike, have one sum
  pub same_sum : (xs ys : List X) → Apart alike xs → Apart alike ys → ((x : X) → (Contains xs x ↔ Contains ys x)) → sum_of f xs ≡ sum_of f ys
  same_sum [] [] apart far same = refl
  same_sum [] (y ∷ ys) apart far same = absurd (no_member y ((same y).1 (member_here y ys)))
  same_sum (x ∷ xs) ys apart far same =
      let unlike : X → Bool = λ z. not (alike x z) in
      let after = pairs_head (Unlike alike) x xs apart in
      let there : (v : X) → Contains xs v → Contains (filter unlike ys) v = λ v h. member_of_filter unlike ys v ((same v).0 (member_later x xs v h)) (not_from_false (alike x v) (All-contains (Unlike alike x) xs v after h)) in
      let from : (v : X) → Contains (filter unlike ys) v → Contains xs v = λ v h. elim (member_cases x xs v ((same v).1 (member_from_filter unlike ys v h))) [
        | inl e ↦
            let far : alike x v ≡ false = not-true (alike x v) (All-contains (λ z. unlike z ≡ true) (filter unlike ys) v (filter_passes unlike ys) h) in
            absurd (both_ways (alike x v) far (ap (alike x) (sym e) ∙ itself x))
        | inr later ↦ later
      ] in
      sum_of-cons f x xs ∙ ap (λ z. f x +ℤ z) (same_sum xs (filter unlike ys) (pairs_tail (Unlike alike) x xs apart) (AllPairs-filter (Unlike alike) unlike ys far) (λ v. (there v, from v)))
      ∙ sym (sum_without x ys far ((same x).0 (member_here x xs)))
