-- What a log has left when its stable entries were taken out, and what then waits to be handed out.
use Rattle.std.proofs.Common.{◌≡◌, ℕ, Bool, true, false, not, List, [], ◌∷◌, ◌++◌, length, reverse, take, drop, length-append, IsPermutation, inl, inr, refl, sym, ap, subst, ◌∙◌, arith}
use Rattle.std.specs.List.{filter}
use Rattle.std.proofs.lemmas.Bool.{cond-true, cond-false}
use Rattle.std.proofs.lemmas.List.{reverse-append, length-reverse, reverse-reverse}
use Rattle.std.proofs.lemmas.List.Filters.{length-filter_both}
use Rattle.std.proofs.lemmas.List.Sorted.{IsPermutation-reverse, length_permutation}
use Rattle.op_base.specs.declared.message.Entry.{Entry}
use Rattle.polog.specs.Order.{in_order, items_of}
use Rattle.polog.specs.Rows.{arrived}
use Rattle.polog.proofs.Orders.{each-weaker, each-passes, pairwise-parts, filter-join, filter-none, filter-in_order, items-join, told, not-true}
use Rattle.polog.proofs.Moves.{Apart, apart-moved, in_order-of-moved}
use Rattle.polog.proofs.Laid.{joined, length-in_order, length-items, arrived-filter}

-- ---- what waits

reverse-items : {E : Type 0} (rs : List (ℕ × E)) → items_of (reverse rs) ≡ reverse (items_of rs)
reverse-items [] = refl
reverse-items (r ∷ rs) =
    ap items_of (reverse-append (r ∷ []) rs) ∙ items-join (reverse rs) (r ∷ []) ∙ ap (λ xs. xs ++ r.1 ∷ []) (reverse-items rs) ∙ sym (reverse-append (r.1 ∷ []) (items_of rs))

-- the entry of the last row is the first that waits
pub first-waits : {E : Type 0} (rs rest : List (ℕ × E)) (e : E) → items_of rs ≡ items_of rest ++ e ∷ [] → reverse (items_of rs) ≡ e ∷ reverse (items_of rest)
first-waits rs rest e last = ap reverse last ∙ reverse-append (items_of rest) (e ∷ [])

-- and where all wait, they come in the order of their arrival
pub all-wait : (rs : List (ℕ × Entry)) → reverse (items_of (reverse (in_order rs))) ≡ arrived rs
all-wait rs = ap reverse (reverse-items (in_order rs)) ∙ reverse-reverse (items_of (in_order rs))

pub none-waits : {E : Type 0} (items : List (ℕ × E)) → reverse (items_of items) ≡ [] → items ≡ []
none-waits [] gone = refl
none-waits (r ∷ rs) gone = absurd (omega (arith, ap length gone, length-reverse (items_of (r ∷ rs)), length-items rs))

-- ---- what is left

filter-whole : {A : Type 0} (p : A → Bool) (xs : List A) → length (filter p xs) ≡ length xs → filter p xs ≡ xs
filter-whole p [] same = refl
filter-whole p (x ∷ xs) same = elim (told (p x)) [
  | inl t ↦
      let here = cond-true (p x) (x ∷ filter p xs) (filter p xs) t in
      let rest : length (filter p xs) ≡ length xs = omega (arith, same, ap length here) in
      here ∙ ap (λ ys. x ∷ ys) (filter-whole p xs rest)
  | inr t ↦
      let here = cond-false (p x) (x ∷ filter p xs) (filter p xs) t in
      let fewer = length-filter_both p (λ y. not (p y)) (λ y. refl) xs in
      absurd (omega (arith, same, ap length here, fewer))
]

module _ (p : Entry → Bool) (rs ss : List (ℕ × Entry)) (k : ℕ) (moved : IsPermutation rs ss) (apart : Apart rs) (kept : take k ss ≡ filter (λ r. not (p r.1)) rs) where
  whole : ss ≡ filter (λ r. not (p r.1)) rs ++ drop k ss
  whole = sym (joined k ss) ∙ ap (λ xs. xs ++ drop k ss) kept

  -- all that pass are behind
  passing : filter (λ r. p r.1) ss ≡ filter (λ r. p r.1) (drop k ss)
  passing =
      let others : List (ℕ × Entry) = filter (λ r. not (p r.1)) rs in
      let none = each-weaker (λ r. not (p r.1) ≡ true) (λ r. p r.1 ≡ false) (λ r. not-true (p r.1)) others (each-passes (λ r. not (p r.1)) rs) in
      ap (filter (λ r. p r.1)) whole ∙ filter-join (λ r. p r.1) others (drop k ss)
      ∙ ap (λ xs. xs ++ filter (λ r. p r.1) (drop k ss)) (filter-none (λ r. p r.1) others none)

  ordered : in_order (filter (λ r. p r.1) (drop k ss)) ≡ in_order (filter (λ r. p r.1) rs)
  ordered = ap in_order (sym passing) ∙ sym (filter-in_order (λ r. p r.1) ss) ∙ ap (filter (λ r. p r.1)) (in_order-of-moved rs ss moved apart) ∙ filter-in_order (λ r. p r.1) rs

  -- and no others
  tail-is : in_order (drop k ss) ≡ in_order (filter (λ r. p r.1) rs)
  tail-is =
      let q : ℕ × Entry → Bool = λ r. p r.1 in
      let many = sym (length-in_order (filter q (drop k ss))) ∙ ap length ordered ∙ length-in_order (filter q rs) in
      let parts = length-filter_both q (λ r. not (p r.1)) (λ r. refl) rs in
      let as_many = length_permutation rs ss moved in
      let split = ap length whole ∙ length-append (filter (λ r. not (p r.1)) rs) (drop k ss) in
      let same : length (filter q (drop k ss)) ≡ length (drop k ss) = omega (arith, many, parts, as_many, split) in
      ap in_order (sym (filter-whole q (drop k ss) same)) ∙ ordered

  tail-apart : Apart (drop k ss)
  tail-apart = (pairwise-parts (λ a b. a.0 ≡ b.0 → ⊥) (take k ss) (drop k ss) (subst Apart (sym (joined k ss)) (apart-moved rs ss moved apart))).1

  pub moved-apart : Apart (reverse (drop k ss))
  moved-apart = apart-moved (drop k ss) (reverse (drop k ss)) (IsPermutation-reverse (drop k ss)) tail-apart

  pub waits : reverse (items_of (reverse (in_order (reverse (drop k ss))))) ≡ filter p (arrived rs)
  waits =
      ap reverse (reverse-items (in_order (reverse (drop k ss)))) ∙ reverse-reverse (items_of (in_order (reverse (drop k ss))))
      ∙ ap items_of (in_order-of-moved (drop k ss) (reverse (drop k ss)) (IsPermutation-reverse (drop k ss)) tail-apart ∙ tail-is)
      ∙ arrived-filter p rs
