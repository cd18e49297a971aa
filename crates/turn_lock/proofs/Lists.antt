-- Lists of seats' views, and numbers: sums, one place that changes, and remainders.
use Rattle.std.proofs.Common.{◌≡◌, ◌≢◌, ◌⊎◌, ℕ, zero, suc, ◌+◌, ◌%◌, ◌<◌, ◌≤◌, Bool, true, false, true≢false, cond, List, [], ◌∷◌, ◌++◌, length, set, sym, refl, ap, ◌∙◌, subst, inl, inr, ⊎_elim, arith}
use mathlib.Core.Option as maybe
use mathlib.Core.Option.{none, some, some-injective, some-ne-none}
use lib.ListN.{get_elem?}
use Rattle.std.specs.List.{All}
use Rattle.atomic_table.proofs.Lists.{at_set}
use Rattle.turn_lock.specs.Rule.{total}

pub not_true : (b : Bool) → (b ≢ true) → b ≡ false
not_true true n = absurd (n refl)
not_true false n = refl

pub not_false : (b : Bool) → b ≡ false → b ≢ true
not_false b f t = true≢false (sym t ∙ f)

module _ {A : Type 0} where
  pub set_at : (l : List A) (i : ℕ) (a b : A) → get_elem? l i ≡ some a → get_elem? (set l i b) i ≡ some b
  set_at [] i a b e = absurd (some-ne-none a (sym e))
  set_at (x ∷ xs) zero a b e = refl
  set_at (x ∷ xs) (suc i) a b e = set_at xs i a b e

  pub total-set : (g : A → ℕ) (l : List A) (j : ℕ) (v w : A) → get_elem? l j ≡ some v → total g (set l j w) + g v ≡ total g l + g w
  total-set g [] j v w e = absurd (some-ne-none v (sym e))
  total-set g (x ∷ xs) zero v w e = omega (arith, ap g (some-injective x v e))
  total-set g (x ∷ xs) (suc j) v w e = omega (arith, total-set g xs j v w e)

  pub term_le : (g : A → ℕ) (l : List A) (j : ℕ) (v : A) → get_elem? l j ≡ some v → g v ≤ total g l
  term_le g [] j v e = absurd (some-ne-none v (sym e))
  term_le g (x ∷ xs) zero v e = omega (arith, ap g (some-injective x v e))
  term_le g (x ∷ xs) (suc j) v e = omega (arith, term_le g xs j v e)

  pub total-append : (g : A → ℕ) (l m : List A) → total g (l ++ m) ≡ total g l + total g m
  total-append g [] m = omega arith
  total-append g (x ∷ xs) m = omega (arith, total-append g xs m)

  pub total_le : (f g : A → ℕ) (l : List A) → ((j : ℕ) (v : A) → get_elem? l j ≡ some v → f v ≤ g v) → total f l ≤ total g l
  total_le f g [] h = omega arith
  total_le f g (x ∷ xs) h = omega (arith, h 0 x refl, total_le f g xs (λ j v e. h (suc j) v e))

  pub all_set : (F : ℕ → A → Type 0) (vs : List A) (me : ℕ) (w : A) → F me w → ((j : ℕ) (u : A) → j ≢ me → get_elem? vs j ≡ some u → F j u) → (j : ℕ) (u : A) → get_elem? (set vs me w) j ≡ some u → F j u
  all_set F vs me w mine others j u e = ⊎_elim (λ (x : (j ≡ me) × (w ≡ u)). subst (λ (y : ℕ × A). F y.0 y.1) (λ i. (sym x.0 i, x.1 i)) mine)
      (λ (x : (j ≢ me) × (get_elem? vs j ≡ some u)). others j u x.0 x.1) (at_set vs me j w u e)

-- tickets less than 2^64 apart are told apart by their remainders
pub near : (a b : ℕ) → a ≤ b → b < a + 18446744073709551616 → a % 18446744073709551616 ≡ b % 18446744073709551616 → b ≡ a
near a b le lt e = omega arith

pub snoc_at : {A : Type 0} (l : List A) (a b : A) (j : ℕ) → get_elem? (l ++ a ∷ []) j ≡ some b → (get_elem? l j ≡ some b) ⊎ ((j ≡ length l) × (a ≡ b))
snoc_at [] a b zero e = inr (refl, some-injective a b e)
snoc_at [] a b (suc j) e = absurd (some-ne-none b (sym e))
snoc_at (x ∷ xs) a b zero e = inl e
snoc_at (x ∷ xs) a b (suc j) e = ⊎_elim (λ h. inl h) (λ h. inr (ap suc h.0, h.1)) (snoc_at xs a b j e)

-- there is a value, or none
pub some_or_none : {A : Type 0} (o : maybe.Option A) → (o ≡ none) ⊎ ((a : A) × (o ≡ some a))
some_or_none none = inl refl
some_or_none (some a) = inr (a, refl)

-- a bit that implies another is at most that one
pub bit_le : (a b : Bool) → (a ≡ true → b ≡ true) → cond a 1 0 ≤ cond b 1 0
bit_le true true h = omega arith
bit_le true false h = absurd (true≢false (sym (h refl)))
bit_le false true h = omega arith
bit_le false false h = omega arith

-- a fact of each element of a list, with one element more in front
pub all_more : {A : Type 0} (P : A → Type 0) (x : A) (xs : List A) → P x → All P xs → All P (x ∷ xs)
all_more P x xs this others zero d below = this
all_more P x xs this others (suc k) d below = others k d (omega arith)
