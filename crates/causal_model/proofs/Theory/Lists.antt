-- Lists that grow at the end, and tests of each member.
use Rattle.std.proofs.Common.{◌≡◌, ℕ, ◌<◌, ◌≤◌, Bool, ◌&&◌, cond, All, true, false, List, [], ◌∷◌, ◌++◌, refl, sym, ap, subst, ◌∙◌, zero-add, get_or, append_assoc, append-nil, arith}
use Rattle.std.specs.List.{list_all, filter, count_by, fold}
use Rattle.std.proofs.lemmas.Bool.{cond-true, cond-false}
use Rattle.std.proofs.lemmas.List.FromFn.{length-range_with_len, get_or-range_with_len}
use Rattle.std.proofs.lemmas.List.Sums.{AllPass-from_list_all, list_all-from_AllPass, sum_by-le-sum_by}
use Rattle.std.proofs.lemmas.List.Elements.{All-from_get_or, All-head, All-tail}
use Rattle.causal_model.specs.Counts.{members}

-- what holds of no item, and of one more at the end, holds of every list
pub induction_at_end : {X : Type 0} (P : List X → Type 0) → P [] → ((xs : List X) (x : X) → P xs → P (xs ++ x ∷ [])) → (xs : List X) → P xs
induction_at_end {X} P none more xs = from xs [] none where
  from : (ys xs : List X) → P xs → P (xs ++ ys)
  from [] xs h = subst P (sym (append-nil xs)) h
  from (y ∷ ys) xs h = subst P (append_assoc xs (y ∷ []) ys) (from ys (xs ++ y ∷ []) (more xs y h))

member_at : (n x : ℕ) → x < n → get_or (members n) x 0 ≡ x
member_at n x l = get_or-range_with_len 0 n x 0 l ∙ zero-add x

-- a test of every member, at one of them
pub each_member : (p : ℕ → Bool) (n : ℕ) → list_all p (members n) ≡ true → (x : ℕ) → x < n → p x ≡ true
each_member p n h x l = subst (λ y. p y ≡ true) (member_at n x l) (AllPass-from_list_all p (members n) h x 0 (omega (arith, length-range_with_len 0 n)))

pub from_each_member : (p : ℕ → Bool) (n : ℕ) → ((x : ℕ) → x < n → p x ≡ true) → list_all p (members n) ≡ true
from_each_member p n each = list_all-from_AllPass p (members n) (All-from_get_or (λ x. p x ≡ true) (members n) 0 (λ x l.
    let k : x < n = omega (arith, length-range_with_len 0 n) in
    subst (λ y. p y ≡ true) (sym (member_at n x k)) (each x k)))

pub filter_none : {X : Type 0} (p : X → Bool) (xs : List X) → All (λ x. p x ≡ false) xs → filter p xs ≡ []
filter_none p [] none = refl
filter_none p (x ∷ xs) none = cond-false (p x) _ _ (All-head (λ y. p y ≡ false) x xs none) ∙ filter_none p xs (All-tail (λ y. p y ≡ false) x xs none)

-- a filter after a filter is one filter
pub filter-filter : {X : Type 0} (p q : X → Bool) (xs : List X) → filter q (filter p xs) ≡ filter (λ x. p x && q x) xs
filter-filter p q [] = refl
filter-filter p q (x ∷ xs) =
    elim (p x) as (λ b. filter q (cond b (x ∷ filter p xs) (filter p xs)) ≡ cond (b && q x) (x ∷ filter (λ y. p y && q y) xs) (filter (λ y. p y && q y) xs)) [
      | true ↦ ap (λ ys. cond (q x) (x ∷ ys) ys) (filter-filter p q xs)
      | false ↦ filter-filter p q xs
    ]

pub cond-le-cond : (a b : Bool) → (a ≡ true → b ≡ true) → cond a 1 0 ≤ cond b 1 0
cond-le-cond false b h = omega arith
cond-le-cond true b h = omega (arith, cond-true {A = ℕ} b 1 0 (h refl))

-- fewer pass a stronger test
pub count_by-le-count_by : {X : Type 0} (p q : X → Bool) (xs : List X) → ((x : X) → p x ≡ true → q x ≡ true) → count_by p xs ≤ count_by q xs
count_by-le-count_by p q xs h = sum_by-le-sum_by (λ x. cond (p x) 1 0) (λ x. cond (q x) 1 0) xs (λ x. cond-le-cond (p x) (q x) (h x))

-- what each step of a fold keeps holds of the whole fold
pub fold_has : {A B : Type 0} (P : B → Type 0) (f : B → A → B) (b : B) (xs : List A) → P b → All (λ x. (c : B) → P c → P (f c x)) xs → P (fold f b xs)
fold_has P f b [] here each = here
fold_has P f b (x ∷ xs) here each =
    fold_has P f (f b x) xs (All-head (λ y. (c : _) → P c → P (f c y)) x xs each b here) (All-tail (λ y. (c : _) → P c → P (f c y)) x xs each)
