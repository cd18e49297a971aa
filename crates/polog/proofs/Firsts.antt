-- The first of the rows that pass, in the order of their numbers.
use Rattle.std.proofs.Common.{◌≡◌, ℕ, ◌+◌, ◌<◌, ◌≤◌, suc, Bool, true, false, not, cond, ltb, List, [], ◌∷◌, ◌++◌, length, take, get_or, Option, Some, None, MatchOption, find, remove, length-append, length-take-le, get_or-take, inl, inr, refl, sym, ap, subst, ◌∙◌, arith}
use Rattle.std.specs.List.{filter}
use Rattle.std.proofs.lemmas.Bool.{cond-true, cond-false, false≢true, ltb-true, ltb-false}
use Rattle.std.proofs.lemmas.List.{get_or_append_left, take_more}
use Rattle.std.proofs.lemmas.List.Sorted.{IsPermutation-remove}
use Rattle.std.proofs.Math.Seq.{get_or-append_seam}
use Rattle.std.proofs.lemmas.Bool.Decides.{leb_tells}
use Rattle.polog.specs.Order.{Each, place, in_order, items_of}
use Rattle.op_base.specs.declared.message.Entry.{Entry}
use Rattle.polog.specs.Rows.{IsFirst, arrived}
use Rattle.polog.specs.Value.{without_first}
use Rattle.polog.proofs.Orders.{each-join, each-weaker, each-in_order, told}
use Rattle.polog.proofs.Laid.{each-cut}
use Rattle.polog.proofs.Moves.{Apart, in_order-of-moved}
use Rattle.polog.proofs.Sweeps.{get-any}

-- ---- a search that goes on by one row

module _ (p : ℕ × Entry → Bool) (xs : List (ℕ × Entry)) (r : ℕ × Entry) where
  later : (k : ℕ) → IsFirst p xs (Some k) → ((d : ℕ × Entry) → p r ≡ true → (get_or xs k d).0 ≤ r.0) → IsFirst p (xs ++ r ∷ []) (Some k)
  later k first no_less =
      let same = λ (d : ℕ × Entry). get_or_append_left xs (r ∷ []) d k first.0 in (
        omega (arith, length-append xs (r ∷ []), first.0),
        λ d. ap p (same d) ∙ first.1 d,
        λ d. subst (λ q. Each (λ s. p s ≡ true → q.0 ≤ s.0) (xs ++ r ∷ [])) (sym (same d)) (each-join (λ s. p s ≡ true → (get_or xs k d).0 ≤ s.0) xs (r ∷ []) (first.2 d) (no_less d, tt)),
      )

  -- the next row doesn't pass
  pub first-passed : (found : Option ℕ) → IsFirst p xs found → p r ≡ false → IsFirst p (xs ++ r ∷ []) found
  first-passed None none fails = each-join (λ s. p s ≡ false) xs (r ∷ []) none (fails, tt)
  first-passed (Some k) first fails = later k first (λ d t. absurd (false≢true (sym fails ∙ t)))

  -- the next row comes no earlier
  pub first-kept : (k : ℕ) → IsFirst p xs (Some k) → ((d : ℕ × Entry) → (get_or xs k d).0 ≤ r.0) → IsFirst p (xs ++ r ∷ []) (Some k)
  first-kept k first no_less = later k first (λ d t. no_less d)

  no-earlier : (found : Option ℕ) → IsFirst p xs found → MatchOption found (Unit {0}) (λ k. (d : ℕ × Entry) → r.0 < (get_or xs k d).0) → Each (λ s. p s ≡ true → r.0 ≤ s.0) xs
  no-earlier None none less = each-weaker (λ s. p s ≡ false) (λ s. p s ≡ true → r.0 ≤ s.0) (λ s fails t. absurd (false≢true (sym fails ∙ t))) xs none
  no-earlier (Some k) first less =
      each-weaker (λ s. p s ≡ true → (get_or xs k r).0 ≤ s.0) (λ s. p s ≡ true → r.0 ≤ s.0)
      (λ s up t. let above = less r in let no_less = up t in omega (arith, above, no_less)) xs (first.2 r)

  -- the next row is the first
  pub first-found : (found : Option ℕ) → IsFirst p xs found → p r ≡ true → MatchOption found (Unit {0}) (λ k. (d : ℕ × Entry) → r.0 < (get_or xs k d).0) → IsFirst p (xs ++ r ∷ []) (Some (length xs))
  first-found found first passes less =
      let last = λ (d : ℕ × Entry). get_or-append_seam xs r [] d in (
        omega (arith, length-append xs (r ∷ [])),
        λ d. ap p (last d) ∙ passes,
        λ d. subst (λ q. Each (λ s. p s ≡ true → q.0 ≤ s.0) (xs ++ r ∷ [])) (sym (last d))
            (each-join (λ s. p s ≡ true → r.0 ≤ s.0) xs (r ∷ []) (no-earlier found first less) (λ t. omega arith, tt)),
      )

-- ---- the same, by places

module _ (p : ℕ × Entry → Bool) (rs : List (ℕ × Entry)) (at : ℕ) (d : ℕ × Entry) (inside : at < length rs) where
  front-is : (k : ℕ) (e : ℕ × Entry) → k < length (take at rs) → get_or (take at rs) k e ≡ get_or rs k e
  front-is k e l = get_or-take at rs k e (omega (arith, l, length-take-le at rs (omega (arith, inside))))

  pub first-skip : (found : Option ℕ) → IsFirst p (take at rs) found → p (get_or rs at d) ≡ false → IsFirst p (take (at + 1) rs) found
  first-skip found first fails = subst (λ xs. IsFirst p xs found) (sym (take_more rs at d inside)) (first-passed p (take at rs) (get_or rs at d) found first fails)

  -- whether the row at the place comes before the one that was found
  abbrev Compares : Option ℕ → Bool → Type 0
  Compares found b = MatchOption found (b ≡ true) (λ k. (e : ℕ × Entry) → b ≡ ltb (get_or rs at e).0 (get_or rs k e).0)

  earlier : (found : Option ℕ) (b : Bool) → IsFirst p (take at rs) found → Compares found b → b ≡ true → MatchOption found (Unit {0}) (λ k. (e : ℕ × Entry) → (get_or rs at d).0 < (get_or (take at rs) k e).0)
  earlier None b first compares comes = tt
  earlier (Some k) b first compares comes = below where
    below : (e : ℕ × Entry) → (get_or rs at d).0 < (get_or (take at rs) k e).0
    below e =
        let less = ltb-true (get_or rs at e).0 (get_or rs k e).0 (sym (compares e) ∙ comes) in
        let same = ap (λ r. r.0) (get-any rs at d e inside) in
        let there = ap (λ r. r.0) (front-is k e first.0) in
        omega (arith, less, same, there)

  pub first-step : (found : Option ℕ) (b : Bool) → IsFirst p (take at rs) found → Compares found b → p (get_or rs at d) ≡ true → b ≡ true → IsFirst p (take (at + 1) rs) (Some at)
  first-step found b first compares passes comes =
      let made = first-found p (take at rs) (get_or rs at d) found first passes (earlier found b first compares comes) in
      subst (λ xs. IsFirst p xs (Some at)) (sym (take_more rs at d inside))
      (subst (λ k. IsFirst p (take at rs ++ get_or rs at d ∷ []) (Some k)) (length-take-le at rs (omega (arith, inside))) made)

  pub first-stays : (found : Option ℕ) (b : Bool) → IsFirst p (take at rs) found → Compares found b → b ≡ false → IsFirst p (take (at + 1) rs) found
  first-stays None b first compares no_less = absurd (false≢true (sym no_less ∙ compares))
  first-stays (Some k) b first compares no_less =
      subst (λ xs. IsFirst p xs (Some k)) (sym (take_more rs at d inside))
      (first-kept p (take at rs) (get_or rs at d) k first up) where
        up : (e : ℕ × Entry) → (get_or (take at rs) k e).0 ≤ (get_or rs at d).0
        up e =
            let no_more = ltb-false (get_or rs at e).0 (get_or rs k e).0 (sym (compares e) ∙ no_less) in
            let same = ap (λ r. r.0) (get-any rs at d e inside) in
            let there = ap (λ r. r.0) (front-is k e first.0) in
            omega (arith, no_more, same, there)

-- ---- what a search for the first entry gives

module _ (p : Entry → Bool) where
  find-first : (r : ℕ × Entry) (zs : List (ℕ × Entry)) → p r.1 ≡ true → Each (λ s. p s.1 ≡ true → r.0 ≤ s.0) zs
      → (find p (items_of (place r zs)) ≡ Some r.1) × (without_first p (items_of (place r zs)) ≡ items_of zs)
  find-first r [] passes each = (cond-true (p r.1) _ _ passes, cond-true (p r.1) _ _ passes)
  find-first r (s ∷ zs) passes each = elim (leb_tells r.0 s.0) [
    | inl (t, l) ↦ subst (λ ys. (find p (items_of ys) ≡ Some r.1) × (without_first p (items_of ys) ≡ items_of (s ∷ zs))) (sym (cond-true _ _ _ t))
        (cond-true (p r.1) _ _ passes, cond-true (p r.1) _ _ passes)
    | inr (t, l) ↦
        let fails : p s.1 ≡ false = elim (told (p s.1)) [ inl u ↦ absurd (let up = each.0 u in omega (arith, up, l)) | inr u ↦ u ] in
        let rest = find-first r zs passes each.1 in
        subst (λ ys. (find p (items_of ys) ≡ Some r.1) × (without_first p (items_of ys) ≡ items_of (s ∷ zs))) (sym (cond-false _ _ _ t))
        (cond-false (p s.1) _ _ fails ∙ rest.0, cond-false (p s.1) _ _ fails ∙ ap (λ xs. s.1 ∷ xs) rest.1)
  ]

  pub find-none : (rs : List (ℕ × Entry)) → Each (λ s. p s.1 ≡ false) rs → (find p (items_of rs) ≡ None) × (without_first p (items_of rs) ≡ items_of rs)
  find-none [] each = (refl, refl)
  find-none (r ∷ rs) each =
      let rest = find-none rs each.1 in
      (cond-false (p r.1) _ _ each.0 ∙ rest.0, cond-false (p r.1) _ _ each.0 ∙ ap (λ xs. r.1 ∷ xs) rest.1)

  pub none-arrived : (rs : List (ℕ × Entry)) → IsFirst (λ r. p r.1) rs None → (find p (arrived rs) ≡ None) × (without_first p (arrived rs) ≡ arrived rs)
  none-arrived rs none = find-none (in_order rs) (each-in_order (λ s. p s.1 ≡ false) rs none)

  pub first-arrived : (rs : List (ℕ × Entry)) (k : ℕ) (d : ℕ × Entry) → Apart rs → IsFirst (λ r. p r.1) rs (Some k)
      → (find p (arrived rs) ≡ Some (get_or rs k d).1) × (without_first p (arrived rs) ≡ arrived (remove rs k))
  first-arrived rs k d apart first =
      let r = get_or rs k d in
      let moved = IsPermutation-remove rs k r first.0 (get-any rs k d r first.0) in
      let P : ℕ × Entry → Type 0 = λ s. p s.1 ≡ true → r.0 ≤ s.0 in
      let rest = each-in_order P (remove rs k) (each-cut P rs k (suc k) (first.2 d)) in
      subst (λ ys. (find p (items_of ys) ≡ Some r.1) × (without_first p (items_of ys) ≡ arrived (remove rs k))) (in_order-of-moved rs (r ∷ remove rs k) moved apart)
      (find-first r (in_order (remove rs k)) (first.1 d) rest)

-- ---- what is left without the first

module _ {A : Type 0} (p : A → Bool) where
  -- what doesn't pass is left
  pub others-left : (xs : List A) → filter (λ x. not (p x)) (without_first p xs) ≡ filter (λ x. not (p x)) xs
  others-left [] = refl
  others-left (x ∷ xs) = elim (told (p x)) [
    | inl t ↦ ap (filter (λ y. not (p y))) (cond-true (p x) _ _ t) ∙ sym (cond-false (not (p x)) _ _ (ap not t))
    | inr t ↦ ap (filter (λ y. not (p y))) (cond-false (p x) _ _ t) ∙ ap (λ ys. cond (not (p x)) (x ∷ ys) ys) (others-left xs)
  ]

  -- where none is found, all are left, and none passes
  pub all-left : (xs : List A) → find p xs ≡ None → (without_first p xs ≡ xs) × (filter (λ x. not (p x)) xs ≡ xs)
  all-left [] none = (refl, refl)
  all-left (x ∷ xs) none = elim (told (p x)) [
    | inl t ↦ let some = sym (cond-true (p x) (Some x) (find p xs) t) ∙ none in cc
    | inr t ↦
        let rest = all-left xs (sym (cond-false (p x) (Some x) (find p xs) t) ∙ none) in
        (cond-false (p x) _ _ t ∙ ap (λ ys. x ∷ ys) rest.0, cond-true (not (p x)) _ _ (ap not t) ∙ ap (λ ys. x ∷ ys) rest.1)
  ]
