-- How often words come among words, one word more at a time.
use Rattle.std.proofs.Common.{◌≡◌, ℕ, zero, suc, ◌+◌, ◌<◌, ◌≤◌, inl, inr, Contains, Bool, true, false, cond, List, [], ◌∷◌, ◌++◌, length, map, take, get_or, Option, Some, refl, sym, ap, subst, ◌∙◌, arith, add-one, add-zero, unwrap_or}
use Rattle.std.specs.Cmp.Lexicographic.{bytes_decides, nat_list_eq_equiv}
use Rattle.std.proofs.lemmas.List.{take_more, map-append, length-map, length-take}
use Rattle.std.proofs.lemmas.List.Sums.{sum_by-cons, sum_by-append, count_by-le-length}
use Rattle.op_base.specs.Name.{same_text}
use Rattle.causal_model.proofs.Theory.Members.{no_member, member_here, member_later, member_cases}
use Rattle.workload.specs.Counts.{count_in, from_1}
use Rattle.workload.specs.Summary.{times}

pub from_1-or_0 : (n : ℕ) → unwrap_or (from_1 n) 0 ≡ n
from_1-or_0 zero = refl
from_1-or_0 (suc n) = refl

pub some_from_1 : (n : ℕ) → 0 < n → from_1 n ≡ Some n
some_from_1 zero h = absurd (omega arith)
some_from_1 (suc n) h = refl

pub above_0 : (n v : ℕ) → Some v ≡ from_1 n → 0 < n
above_0 zero v is = absurd (cc)
above_0 (suc n) v is = omega arith

from_1-more : (n : ℕ) → Some (n + 1) ≡ from_1 (n + 1)
from_1-more n = rw add-one refl

-- how often a word comes where there is one more
times-more : (words : List (List ℕ)) (word q : List ℕ) (same : Bool) → same_text q word ≡ same → times (words ++ word ∷ []) q ≡ times words q + cond same 1 0
times-more words word q same is = grind (arith, sum_by-append (λ w. cond (same_text q w) 1 0) words (word ∷ []))

-- how often it comes where the first is known
times-first : (w : List ℕ) (words : List (List ℕ)) (word : List ℕ) (same : Bool) → same_text word w ≡ same → times (w ∷ words) word ≡ cond same 1 0 + times words word
times-first w words word same is = sum_by-cons (λ x. cond (same_text word x) 1 0) w words ∙ ap (λ s. cond s 1 0 + times words word) is

-- a word comes where it comes at least once
pub times_member : (words : List (List ℕ)) (word : List ℕ) → 0 < times words word → Contains words word
times_member [] word h = absurd (omega arith)
times_member (w ∷ words) word h = by (same_text word w) refl (times_member words word) where
  by : (same : Bool) → same_text word w ≡ same → (0 < times words word → Contains words word) → Contains (w ∷ words) word
  by true is later = subst (λ x. Contains (x ∷ words) word) ((bytes_decides word w).0 is) (member_here word words)
  by false is later = member_later w words word (later (omega (arith, times-first w words word false is)))

pub member_times : (words : List (List ℕ)) (word : List ℕ) → Contains words word → 0 < times words word
member_times [] word h = absurd (no_member word h)
member_times (w ∷ words) word h = elim (member_cases w words word h) [
  | inl here ↦ omega (arith, times-first w words word true ((bytes_decides word w).1 (sym here)))
  | inr later ↦ omega (arith, times-first w words word (same_text word w) refl, member_times words word later)
]

-- each word is kept with how often it comes
abbrev pub KeepsCounts : (List ℕ → Option ℕ) → List (List ℕ) → Type 0
KeepsCounts kept words = (q : List ℕ) → kept q ≡ count_in words q

-- a word counted once more
counted_more : (old new : List ℕ → Option ℕ) (words : List (List ℕ)) (word : List ℕ) → KeepsCounts old words → new word ≡ Some (unwrap_or (old word) 0 + 1)
    → ((q : List ℕ) → same_text word q ≡ false → new q ≡ old q) → KeepsCounts new (words ++ word ∷ [])
counted_more old new words word so_far this others q = by (same_text word q) refl where
  here : new word ≡ count_in (words ++ word ∷ []) word
  here =
      let before : unwrap_or (old word) 0 ≡ times words word = ap (λ o. unwrap_or o 0) (so_far word) ∙ from_1-or_0 (times words word) in
      this ∙ ap (λ n. Some (n + 1)) before ∙ from_1-more (times words word) ∙ ap from_1 (sym (times-more words word word true (nat_list_eq_equiv.refl word)))

  by : (same : Bool) → same_text word q ≡ same → new q ≡ count_in (words ++ word ∷ []) q
  by true is = subst (λ w. new w ≡ count_in (words ++ word ∷ []) w) ((bytes_decides word q).0 is) here
  by false is =
      let stays = times-more words word q false (nat_list_eq_equiv.symm q word ∙ is) ∙ add-zero (times words q) in
      others q is ∙ so_far q ∙ ap from_1 (sym stays)

-- the same, where the words are read off a list
pub counted_next : {X : Type 0} (f : X → List ℕ) (xs : List X) (i : ℕ) (d : X) (old new : List ℕ → Option ℕ) (word : List ℕ) → i < length xs → word ≡ f (get_or xs i d)
    → KeepsCounts old (map f (take i xs)) → new word ≡ Some (unwrap_or (old word) 0 + 1)
    → ((q : List ℕ) → same_text word q ≡ false → new q ≡ old q) → KeepsCounts new (map f (take (i + 1) xs))
counted_next f xs i d old new word within is so_far this others =
    let next : map f (take (i + 1) xs) ≡ map f (take i xs) ++ word ∷ [] = ap (map f) (take_more xs i d within) ∙ map-append f (take i xs) (get_or xs i d ∷ []) ∙ ap (λ w. map f (take i xs) ++ w ∷ []) (sym is) in
    subst (KeepsCounts new) (sym next) (counted_more old new (map f (take i xs)) word so_far this others)

-- what is kept of a word is at most the number of words
pub kept-le : {X : Type 0} (f : X → List ℕ) (xs : List X) (i : ℕ) (kept : List ℕ → Option ℕ) (word : List ℕ) → KeepsCounts kept (map f (take i xs)) → unwrap_or (kept word) 0 ≤ i
kept-le f xs i kept word so_far =
    let is : unwrap_or (kept word) 0 ≡ times (map f (take i xs)) word = ap (λ o. unwrap_or o 0) (so_far word) ∙ from_1-or_0 _ in
    omega (arith, is, count_by-le-length (same_text word) (map f (take i xs)), length-map (take i xs) f, length-take i xs)
