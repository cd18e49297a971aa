-- The least of a list of numbers.
use Rattle.std.proofs.Common.{◌≡◌, ℕ, zero, suc, ◌+◌, ◌<◌, ◌≤◌, ◌≢◌, ◌⊎◌, min, List, [], ◌∷◌, length, get_or, set, length-set, get_or-set_other, refl, sym, ap, ◌∙◌, inl, inr, below_more, arith}
use Rattle.std.proofs.lemmas.Bool.{cases_lt, cases_eq}
use Rattle.std.proofs.lemmas.Grind.{get_or-set_at}
use Rattle.std.proofs.lemmas.List.{set-get_or}
use Rattle.causal_model.specs.Stability.{minimum}
use Rattle.op_base.specs.Timestamp.{IsBelowChange}

minimum_below : (xs : List ℕ) (k : ℕ) → k < length xs → minimum xs ≤ get_or xs k 0
minimum_below [] k l = absurd (omega (arith, l))
minimum_below (x ∷ []) zero l = omega arith
minimum_below (x ∷ []) (suc k) l = absurd (omega (arith, l))
minimum_below (x ∷ y ∷ xs) zero l = omega arith
minimum_below (x ∷ y ∷ xs) (suc k) l = omega (arith, minimum_below (y ∷ xs) k (omega (arith, l)))

-- where the least stands
minimum_there : (x : ℕ) (xs : List ℕ) → (k : ℕ) × (k < length (x ∷ xs)) × (get_or (x ∷ xs) k 0 ≡ minimum (x ∷ xs))
minimum_there x [] = (0, omega arith, refl)
minimum_there x (y ∷ xs) =
    let later = minimum_there y xs in
    elim (cases_lt x (minimum (y ∷ xs))) [
      | inl l ↦ (0, omega arith, omega (arith, l))
      | inr past ↦ (suc later.0, omega (arith, later.1), omega (arith, later.2, past))
    ]

-- a number that none is below, and that is there, is the least
minimum_is : (xs : List ℕ) (least : ℕ) → ((k : ℕ) → k < length xs → least ≤ get_or xs k 0) → (k : ℕ) → k < length xs → get_or xs k 0 ≡ least → minimum xs ≡ least
minimum_is [] least below k l e = absurd (omega (arith, l))
minimum_is (x ∷ xs) least below k l e =
    let there = minimum_there x xs in
    omega (arith, below there.0 there.1, there.2, minimum_below (x ∷ xs) k l, e)

-- it stays where a number above it becomes another above it
minimum-set_above : (xs : List ℕ) (k v : ℕ) → k < length xs → minimum xs < get_or xs k 0 → minimum xs < v → minimum (set xs k v) ≡ minimum xs
minimum-set_above [] k v l was now = absurd (omega (arith, l))
minimum-set_above (x ∷ xs) k v l was now =
    let there = minimum_there x xs in
    let apart : there.0 ≢ k = λ e. absurd (omega (arith, there.2, was, ap (λ j. get_or (x ∷ xs) j 0) e)) in
    minimum_is (set (x ∷ xs) k v) (minimum (x ∷ xs)) (λ i within. elim (cases_eq i k) [
      | inl e ↦ omega (arith, get_or-set_at (x ∷ xs) k i v 0 e l, now)
      | inr ne ↦ omega (arith, get_or-set_other (x ∷ xs) k i v 0 ne, minimum_below (x ∷ xs) i (omega (arith, within, length-set (x ∷ xs) k v)))
    ]) there.0 (omega (arith, there.1, length-set (x ∷ xs) k v)) (get_or-set_other (x ∷ xs) k there.0 v 0 apart ∙ there.2)

-- or where the number set is the one that was there
pub minimum-set : (xs : List ℕ) (k v : ℕ) → k < length xs → IsBelowChange (minimum xs) (get_or xs k 0) v → minimum (set xs k v) ≡ minimum xs
minimum-set xs k v l stays = elim stays [
  | inl e ↦ ap (λ w. minimum (set xs k w)) (sym e) ∙ ap minimum (set-get_or xs k 0)
  | inr above ↦ minimum-set_above xs k v l above.0 above.1
]

-- ---- a list gone through from its start, with the least so far

pub record IsLeastSoFar (xs : List ℕ) (least i : ℕ) : Type 0 where
  pub below : (k : ℕ) → k < i → least ≤ get_or xs k 0
  pub there : (k : ℕ) × (k < length xs) × (get_or xs k 0 ≡ least)

pub least-more : (xs : List ℕ) (least i v next : ℕ) → IsLeastSoFar xs least i → i < length xs → v ≡ get_or xs i 0 → next ≡ min least v → IsLeastSoFar xs next (i + 1)
least-more xs least i v next so_far l at is = record {
  below = below_more (λ k. next ≤ get_or xs k 0) i (λ k less. omega (arith, so_far.below k less, is)) (omega (arith, at, is));
  there = elim (cases_lt least v) [
    | inl less ↦ (so_far.there.0, so_far.there.1, omega (arith, so_far.there.2, is, less))
    | inr past ↦ (i, l, omega (arith, at, is, past))
  ];
}

pub least-done : (xs : List ℕ) (least i : ℕ) → IsLeastSoFar xs least i → length xs ≤ i → minimum xs ≡ least
least-done xs least i so_far done = minimum_is xs least (λ k l. so_far.below k (omega (arith, l, done))) so_far.there.0 so_far.there.1 so_far.there.2

-- the same where two of the numbers were looked at before all others
pub record IsLeastBeside (xs : List ℕ) (a b least i : ℕ) : Type 0 where
  pub so_far : IsLeastSoFar xs least i
  pub first : least ≤ get_or xs a 0
  pub second : least ≤ get_or xs b 0

pub beside_start : (xs : List ℕ) (a b va vb least : ℕ) → a < length xs → b < length xs → va ≡ get_or xs a 0 → vb ≡ get_or xs b 0 → least ≡ min va vb → IsLeastBeside xs a b least 0
beside_start xs a b va vb least in_a in_b at_a at_b is = record {
  so_far = record {
    below = λ k l. absurd (omega (arith, l));
    there = elim (cases_lt va vb) [
      | inl less ↦ (a, in_a, omega (arith, at_a, is, less))
      | inr past ↦ (b, in_b, omega (arith, at_b, is, past))
    ];
  };
  first = omega (arith, at_a, is);
  second = omega (arith, at_b, is);
}

pub beside_skip : (xs : List ℕ) (a b least i : ℕ) → IsLeastBeside xs a b least i → (i ≡ a) ⊎ (i ≡ b) → IsLeastBeside xs a b least (i + 1)
beside_skip xs a b least i beside here = record {
  so_far = record {
    below = below_more (λ k. least ≤ get_or xs k 0) i beside.so_far.below (elim here [
      | inl e ↦ omega (arith, beside.first, ap (λ k. get_or xs k 0) e)
      | inr e ↦ omega (arith, beside.second, ap (λ k. get_or xs k 0) e)
    ]);
    there = beside.so_far.there;
  };
  first = beside.first;
  second = beside.second;
}

pub beside_more : (xs : List ℕ) (a b least i v next : ℕ) → IsLeastBeside xs a b least i → i < length xs → v ≡ get_or xs i 0 → next ≡ min least v → IsLeastBeside xs a b next (i + 1)
beside_more xs a b least i v next beside l at is = record {
  so_far = least-more xs least i v next beside.so_far l at is;
  first = omega (arith, beside.first, is);
  second = omega (arith, beside.second, is);
}
