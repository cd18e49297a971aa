-- Lists by place: one element more, and one that changed.
use Rattle.std.proofs.Common.{◌≡◌, ℕ, ◌<◌, List, [], ◌∷◌, ◌++◌, length, get_or, take, drop, inl, inr, sym, ap, subst, ◌∙◌, arith}
use Rattle.std.specs.Prelude.{slice_set}
use Rattle.std.proofs.Math.Seq.{take-append_seam}
use Rattle.std.proofs.lemmas.Bool.{cases_eq}
use Rattle.std.proofs.lemmas.List.{length-append, get_or_push, get_or_append_left, get_or-set_same, get_or-set_other}

-- with one element more
pub each_pushed : {X : Type 0} (P : ℕ → X → Type 0) (xs : List X) (x : X) → ((r : ℕ) (d : X) → r < length xs → P r (get_or xs r d)) → P (length xs) x
    → (r : ℕ) (d : X) → r < length (xs ++ x ∷ []) → P r (get_or (xs ++ x ∷ []) r d)
each_pushed {X} P xs x each last r d l = elim (cases_eq r (length xs)) [
  | inl same ↦ subst (λ (p : ℕ × X). P p.0 p.1) (λ i. (sym same i, sym (get_or_push xs x d r (sym same)) i)) last
  | inr other ↦
      let below : r < length xs = omega (arith, l, other, length-append xs (x ∷ [])) in
      subst (P r) (sym (get_or_append_left xs (x ∷ []) d r below)) (each r d below)
]

-- so of two lists
pub both_pushed : {X Y : Type 0} (P : ℕ → X → Y → Type 0) (xs : List X) (ys : List Y) (x : X) (y : Y) → length ys ≡ length xs
    → ((r : ℕ) (d : X) (e : Y) → r < length xs → P r (get_or xs r d) (get_or ys r e)) → P (length xs) x y
    → (r : ℕ) (d : X) (e : Y) → r < length (xs ++ x ∷ []) → P r (get_or (xs ++ x ∷ []) r d) (get_or (ys ++ y ∷ []) r e)
both_pushed {X} {Y} P xs ys x y len each last r d e l = elim (cases_eq r (length xs)) [
  | inl same ↦ subst (λ (p : ℕ × (X × Y)). P p.0 p.1.0 p.1.1) (λ i. (sym same i, (sym (get_or_push xs x d r (sym same)) i, sym (get_or_push ys y e r (len ∙ sym same)) i))) last
  | inr other ↦
      let below : r < length xs = omega (arith, l, other, length-append xs (x ∷ [])) in
      subst (λ (p : X × Y). P r p.0 p.1) (λ i. (sym (get_or_append_left xs (x ∷ []) d r below) i, sym (get_or_append_left ys (y ∷ []) e r (omega (arith, below, len))) i)) (each r d e below)
]

-- where one was changed
pub each_set : {X : Type 0} (P : ℕ → X → Type 0) (xs : List X) (i : ℕ) (x : X) → i < length xs → P i x → ((r : ℕ) (d : X) → r < length xs → (r ≡ i → ⊥) → P r (get_or xs r d))
    → (r : ℕ) (d : X) → r < length xs → P r (get_or (slice_set xs i x) r d)
each_set {X} P xs i x inside here others r d l = elim (cases_eq r i) [
  | inl same ↦ subst (λ (p : ℕ × X). P p.0 p.1) (λ j. (sym same j, sym (subst (λ k. get_or (slice_set xs i x) k d ≡ x) (sym same) (get_or-set_same xs i x d inside)) j)) here
  | inr other ↦ subst (P r) (sym (get_or-set_other xs i r x d other)) (others r d l other)
]

-- what was lent of a list comes back
pub kept : {X : Type 0} (new old : List X) (k : ℕ) → k ≡ length new → take k (new ++ drop (length new) old) ≡ new
kept new old k same = ap (λ j. take j (new ++ drop (length new) old)) same ∙ take-append_seam new (drop (length new) old)
