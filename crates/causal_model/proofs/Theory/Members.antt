-- Lists by their members: what is in a list with one item more, what passes a test, and lists that rise.
use Rattle.std.proofs.Common.{◌≡◌, ◌↔◌, ℕ, ◌<◌, Bool, true, All, Contains, List, [], ◌∷◌, zero, suc, refl, sym, ap, subst, ◌∙◌, ◌⊎◌, inl, inr, arith}
use Rattle.std.specs.Prelude.{AllPairs}
use Rattle.std.specs.List.{filter, list_any, list_all, slice_index_or}
use Rattle.std.proofs.lemmas.Bool.{cond_both, cond-true}
use Rattle.std.proofs.lemmas.List.Sums.{AllPass-from_list_all, list_all-from_AllPass}
use Rattle.causal_model.proofs.Theory.Elements.{item_from_list_any, list_any-from_item, same_tests}
use Rattle.std.proofs.lemmas.List.Elements.{filter_passes, All-contains, All-filter, All-contains_itself, Contains-get_or, Contains-append_right, Contains-append_cases}

-- ---- one item more

pub no_member : {X : Type 0} (x : X) → Contains [] x → ⊥
no_member x h = let within : h.0 < 0 = h.1 in absurd (omega arith)

pub member_here : {X : Type 0} (x : X) (xs : List X) → Contains (x ∷ xs) x
member_here x xs = (0, omega arith, refl)

pub member_later : {X : Type 0} (y : X) (xs : List X) (x : X) → Contains xs x → Contains (y ∷ xs) x
member_later y xs x h = Contains-append_right (y ∷ []) xs x h

only_member : {X : Type 0} (y x : X) → Contains (y ∷ []) x → y ≡ x
only_member y x h = at h.0 h.1 h.2 where
  at : (k : ℕ) → k < 1 → slice_index_or (y ∷ []) k x ≡ x → y ≡ x
  at zero l e = e
  at (suc k) l e = absurd (omega arith)

pub member_cases : {X : Type 0} (y : X) (xs : List X) (x : X) → Contains (y ∷ xs) x → (y ≡ x) ⊎ Contains xs x
member_cases y xs x h = elim (Contains-append_cases (y ∷ []) xs x h) [ inl here ↦ inl (only_member y x here) | inr later ↦ inr later ]

module _ {X : Type 0} (R : X → X → Type 0) where
  pub pairs_head : (x : X) (xs : List X) → AllPairs R (x ∷ xs) → All (R x) xs
  pairs_head x xs h k d within = h zero (suc k) d (omega arith) (omega arith)

  pub pairs_tail : (x : X) (xs : List X) → AllPairs R (x ∷ xs) → AllPairs R xs
  pairs_tail x xs h i j d lt within = h (suc i) (suc j) d (omega arith) (omega arith)

-- ---- what passes a test

pub member_of_filter : {X : Type 0} (p : X → Bool) (xs : List X) (x : X) → Contains xs x → p x ≡ true → Contains (filter p xs) x
member_of_filter p [] x h t = h
member_of_filter p (y ∷ xs) x h t = elim (member_cases y xs x h) [
  | inl here ↦ subst (λ ys. Contains ys x) (sym (cond-true (p y) (y ∷ filter p xs) (filter p xs) (ap p here ∙ t))) (subst (Contains (y ∷ filter p xs)) here (member_here y (filter p xs)))
  | inr later ↦ cond_both (p y) (y ∷ filter p xs) (filter p xs) (λ ys. Contains ys x) (λ _. member_later y (filter p xs) x (member_of_filter p xs x later t)) (λ _. member_of_filter p xs x later t)
]

pub member_from_filter : {X : Type 0} (p : X → Bool) (xs : List X) (x : X) → Contains (filter p xs) x → Contains xs x
member_from_filter p xs x h = All-contains (Contains xs) (filter p xs) x (All-filter p (Contains xs) xs (All-contains_itself xs)) h

-- a list within another passes within it
pub filter_within : {X : Type 0} (p : X → Bool) (xs ys : List X) → ((x : X) → Contains xs x → Contains ys x) → (x : X) → Contains (filter p xs) x → Contains (filter p ys) x
filter_within p xs ys within x h = member_of_filter p ys x (within x (member_from_filter p xs x h)) (All-contains (λ y. p y ≡ true) (filter p xs) x (filter_passes p xs) h)

-- some item passes a weaker test
pub list_any_weaker : {X : Type 0} (p q : X → Bool) (xs : List X) → ((x : X) → p x ≡ true → q x ≡ true) → list_any p xs ≡ true → list_any q xs ≡ true
list_any_weaker p q xs h t = let found = item_from_list_any p xs t in list_any-from_item q xs found.0 found.1.0 (h found.0 found.1.1)

-- ---- lists with the same members

-- a test that some item passes, or that each does, is answered alike
module _ {X : Type 0} (p : X → Bool) where
  some_passes : (xs ys : List X) → ((x : X) → Contains xs x → Contains ys x) → list_any p xs ≡ true → list_any p ys ≡ true
  some_passes xs ys within t = let found = item_from_list_any p xs t in list_any-from_item p ys found.0 (within found.0 found.1.0) found.1.1

  each_passes : (xs ys : List X) → ((x : X) → Contains xs x → Contains ys x) → list_all p ys ≡ true → list_all p xs ≡ true
  each_passes xs ys within t = list_all-from_AllPass p xs (λ k d l. All-contains (λ x. p x ≡ true) ys (slice_index_or xs k d) (AllPass-from_list_all p ys t) (within (slice_index_or xs k d) (Contains-get_or xs k d l)))

  pub list_any_members : (xs ys : List X) → ((x : X) → (Contains xs x ↔ Contains ys x)) → list_any p xs ≡ list_any p ys
  list_any_members xs ys same = same_tests (list_any p xs) (list_any p ys) (some_passes xs ys (λ x. (same x).0)) (some_passes ys xs (λ x. (same x).1))

  pub list_all_members : (xs ys : List X) → ((x : X) → (Contains xs x ↔ Contains ys x)) → list_all p xs ≡ list_all p ys
  list_all_members xs ys same = same_tests (list_all p xs) (list_all p ys) (each_passes ys xs (λ x. (same x).1)) (each_passes xs ys (λ x. (same x).0))

-- ---- lists that rise

-- a list that rises by an order in which of two items at most one is before the other is determined by its members
module _ {X : Type 0} (R : X → X → Type 0) (asymmetric : (a b : X) → R a b → R b a → ⊥) where
  same_rest : (x : X) (xs ys : List X) → All (R x) xs → ((v : X) → Contains (x ∷ xs) v → Contains (x ∷ ys) v) → (v : X) → Contains xs v → Contains ys v
  same_rest x xs ys after same v h = elim (member_cases x ys v (same v (member_later x xs v h))) [
    | inl here ↦ let self : R x x = subst (R x) (sym here) (All-contains (R x) xs v after h) in absurd (asymmetric x x self self)
    | inr later ↦ later
  ]

  pub one_rising_list : (xs ys : List X) → AllPairs R xs → AllPairs R ys → ((v : X) → (Contains xs v ↔ Contains ys v)) → xs ≡ ys
  one_rising_list [] [] up upper same = refl
  one_rising_list [] (y ∷ ys) up upper same = absurd (no_member y ((same y).1 (member_here y ys)))
  one_rising_list (x ∷ xs) [] up upper same = absurd (no_member x ((same x).0 (member_here x xs)))
  one_rising_list (x ∷ xs) (y ∷ ys) up upper same =
      let after = pairs_head R x xs up in
      let behind = pairs_head R y ys upper in
      let first : y ≡ x = elim (member_cases y ys x ((same x).0 (member_here x xs))) [
        | inl e ↦ e
        | inr below ↦ elim (member_cases x xs y ((same y).1 (member_here y ys))) [ inl e ↦ sym e | inr above ↦ absurd (asymmetric x y (All-contains (R x) xs y after above) (All-contains (R y) ys x behind below)) ]
      ] in
      let there : (v : X) → Contains (x ∷ xs) v → Contains (x ∷ ys) v = λ v h. subst (λ z. Contains (z ∷ ys) v) first ((same v).0 h) in
      let back : (v : X) → Contains (x ∷ ys) v → Contains (x ∷ xs) v = λ v h. (same v).1 (subst (λ z. Contains (z ∷ ys) v) (sym first) h) in
      let rest : xs ≡ ys = one_rising_list xs ys (pairs_tail R x xs up) (pairs_tail R y ys upper) (λ v. (same_rest x xs ys after there v, same_rest x ys xs (subst (λ z. All (R z) ys) first behind) back v)) in
      λ i. sym first i ∷ rest i
