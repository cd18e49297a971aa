-- Lists of what is found: what they say with one find more, and their orders.
use Rattle.std.proofs.Common.{◌≡◌, ℕ, arith, length-append, Bool, true, false, ◌||◌, All, List, [], ◌∷◌, ◌++◌, refl, sym, ap, subst, ◌∙◌}
use Rattle.std.specs.Prelude.{AllPairs}
use Rattle.std.specs.List.{list_any}
use Rattle.std.specs.List.Sorted.{IsPermutation}
use Rattle.std.specs.Cmp.{IsTotalOrder}
use Rattle.std.specs.Ordering.{is_lt, is_eq, ordering_reverse, ordering_then, bool_cmp}
use Rattle.std.specs.declared.cmp.Ordering.{Ordering}
use Rattle.std.specs.declared.cmp.Ordering.TheVariants.{Less, Equal, Greater}
use Rattle.std.proofs.lemmas.Bool.{false≢true}
use Rattle.std.proofs.lemmas.Cmp.{nat_list_cmp_total}
use Rattle.std.proofs.lemmas.List.{get_or_append_left}
use Rattle.std.proofs.lemmas.List.Elements.{All-nil, All-cons, All-contains, Contains-push}
use Rattle.std.proofs.lemmas.List.Folds.{list_any-append}
use Rattle.std.proofs.lemmas.List.Kept.{AllPairs-cons}
use Rattle.std.proofs.lemmas.List.Sorted.{Contains-permutation, IsPermutation-sym}
use Rattle.op_base.specs.Order.{text_cmp}
use Rattle.causal_model.proofs.Theory.Members.{pairs_head, pairs_tail, list_any_members}
use Rattle.part_queries.specs.declared.found.Found.{Found}
use Rattle.part_queries.specs.declared.marks.Marks.{Marks}

pub or_none : (b : Bool) → (b || false) ≡ b
or_none true = refl
or_none false = refl

-- ---- a list with one item more

pub list_any_push : {X : Type 0} (p : X → Bool) (xs : List X) (x : X) → list_any p (xs ++ x ∷ []) ≡ (list_any p xs || p x)
list_any_push p xs x = list_any-append p xs (x ∷ []) ∙ ap (λ b. list_any p xs || b) (or_none (p x))

-- in a list of pairs each is before the last
pub pairs_last : {X : Type 0} (R : X → X → Type 0) (xs : List X) (y : X) → AllPairs R (xs ++ y ∷ []) → All (λ x. R x y) xs
pairs_last R [] y pairs = All-nil (λ x. R x y)
pairs_last R (x ∷ xs) y pairs =
    All-cons (λ z. R z y) x xs (All-contains (R x) (xs ++ y ∷ []) y (pairs_head R x (xs ++ y ∷ []) pairs) (Contains-push xs y)) (pairs_last R xs y (pairs_tail R x (xs ++ y ∷ []) pairs))

pub all_front : {X : Type 0} (P : X → Type 0) (xs ys : List X) → All P (xs ++ ys) → All P xs
all_front P xs ys each = λ k d l. subst P (get_or_append_left xs ys d k l) (each k d (omega (arith, l, length-append xs ys)))

pub pairs_front : {X : Type 0} (R : X → X → Type 0) (xs ys : List X) → AllPairs R (xs ++ ys) → AllPairs R xs
pairs_front R [] ys pairs = λ i j d l within. absurd (omega (arith, within))
pairs_front R (x ∷ xs) ys pairs = AllPairs-cons R x xs (all_front (R x) xs ys (pairs_head R x (xs ++ ys) pairs)) (pairs_front R xs ys (pairs_tail R x (xs ++ ys) pairs))

-- ---- the order of finds

pub texts_total : IsTotalOrder text_cmp
texts_total = nat_list_cmp_total

-- what is neither before nor tied is after
pub after_from : (a b : List ℕ) → is_lt (text_cmp b a) ≡ false → is_eq (text_cmp a b) ≡ false → text_cmp a b ≡ Less
after_from a b after apart = by (text_cmp a b) refl (texts_total.antisymm b a) apart where
  by : (o : Ordering) → text_cmp a b ≡ o → text_cmp b a ≡ ordering_reverse o → is_eq o ≡ false → o ≡ Less
  by Less is back apart = refl
  by Equal is back apart = absurd (false≢true (sym apart))
  by Greater is back apart = absurd (false≢true (sym after ∙ ap is_lt back))

-- the order of marks
abbrev pub marks_cmp : Marks → Marks → Ordering
marks_cmp a b = ordering_then (bool_cmp a.put b.put) (bool_cmp a.taken b.taken)

-- the order of finds by all that they have, which goes by value first
abbrev pub found_cmp : Found → Found → Ordering
found_cmp a b = ordering_then (text_cmp a.value.now b.value.now) (marks_cmp a.marks b.marks)

pub list_any_permuted : {X : Type 0} (p : X → Bool) (xs ys : List X) → IsPermutation xs ys → list_any p ys ≡ list_any p xs
list_any_permuted p xs ys moved = list_any_members p ys xs (λ x. (Contains-permutation ys xs x (IsPermutation-sym xs ys moved), Contains-permutation xs ys x moved))
