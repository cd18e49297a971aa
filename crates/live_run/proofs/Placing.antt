-- Objects that are put in byte order of their texts.
use Rattle.std.proofs.Common.{◌≡◌, ℕ, zero, suc, ◌<◌, ◌≤◌, List, [], ◌∷◌, length, get_or, All, inl, inr, refl, sym, ap, subst, ◌∙◌, if◌then◌else◌, arith}
use Rattle.std.specs.Cmp.Lexicographic.{texts_ties, bytes_decides}
use Rattle.std.specs.List.{AllWithin, HoldsAt, insert}
use Rattle.std.specs.List.Sorted.{IsNonDecreasingBy, IsPartitionPoint}
use Rattle.std.specs.Ordering.{is_lt, is_eq, ordering_reverse, ordering_index}
use Rattle.std.specs.declared.cmp.Ordering.{Ordering}
use Rattle.std.specs.declared.cmp.Ordering.TheVariants.{Less, Equal, Greater}
use Rattle.std.proofs.Math.Nat.{eq-or-lt_of_le}
use Rattle.std.proofs.lemmas.Cmp.{nat_list_cmp_total}
use Rattle.std.proofs.lemmas.List.Elements.{All-nil, All-cons, All-weaker, All-head, All-tail}
use Rattle.std.proofs.lemmas.List.Kept.{AllPairs-cons}
use Rattle.op_base.specs.Order.{text_cmp}
use Rattle.op_base.specs.declared.name.ObjectId.{ObjectId}
use Rattle.causal_model.proofs.Theory.Members.{pairs_head, pairs_tail}
use Rattle.live_run.specs.Inputs.{object_text, put_object, ObjectsRise}

abbrev IsBefore : ObjectId → ObjectId → Type 0
IsBefore a b = text_cmp (object_text a) (object_text b) ≡ Less

reversed : (x y : List ℕ) (o : Ordering) → text_cmp x y ≡ o → text_cmp y x ≡ ordering_reverse o
reversed x y o is = nat_list_cmp_total.antisymm y x ∙ ap ordering_reverse is

same_text : (x y : List ℕ) → text_cmp x y ≡ Equal → x ≡ y
same_text x y is = (bytes_decides x y).0 (texts_ties x y ∙ ap is_eq is)

-- what put_object makes at its first object, by how that compares
abbrev put_before : Ordering → ObjectId → ObjectId → List ObjectId → List ObjectId → List ObjectId
put_before o new first rest later = if is_lt o then new ∷ first ∷ rest else if is_eq o then first ∷ rest else first ∷ later

put_by : (object first : ObjectId) (rest : List ObjectId) (o : Ordering) → text_cmp (object_text object) (object_text first) ≡ o
    → put_object object (first ∷ rest) ≡ put_before o object first rest (put_object object rest)
put_by object first rest o is = ap (λ o. put_before o object first rest (put_object object rest)) is

-- ---- they rise

put_object_has : (P : ObjectId → Type 0) (object : ObjectId) (os : List ObjectId) → P object → All P os → All P (put_object object os)
put_object_has P object [] new each = All-cons P object [] new each
put_object_has P object (first ∷ os) new each = by (text_cmp (object_text object) (object_text first)) (put_object_has P object os new (All-tail P first os each)) where
  by : (o : Ordering) → All P (put_object object os) → All P (put_before o object first os (put_object object os))
  by Less later = All-cons P object (first ∷ os) new each
  by Equal later = each
  by Greater later = All-cons P first (put_object object os) (All-head P first os each) later

pub put_object_rises : (object : ObjectId) (os : List ObjectId) → ObjectsRise os → ObjectsRise (put_object object os)
put_object_rises object [] rising = AllPairs-cons IsBefore object [] (All-nil (IsBefore object)) rising
put_object_rises object (first ∷ os) rising = by (text_cmp (object_text object) (object_text first)) refl (put_object_rises object os (pairs_tail IsBefore first os rising)) where
  above : All (IsBefore first) os
  above = pairs_head IsBefore first os rising

  by : (o : Ordering) → text_cmp (object_text object) (object_text first) ≡ o → ObjectsRise (put_object object os) → ObjectsRise (put_before o object first os (put_object object os))
  by Less is later =
      AllPairs-cons IsBefore object (first ∷ os)
      (All-cons (IsBefore object) first os is (All-weaker (IsBefore first) (IsBefore object) (λ b. nat_list_cmp_total.trans (object_text object) (object_text first) (object_text b) is) os above)) rising
  by Equal is later = rising
  by Greater is later =
      AllPairs-cons IsBefore first (put_object object os) (put_object_has (IsBefore first) object os (reversed (object_text object) (object_text first) Greater is) above) later

-- ---- where an object belongs

nearer : (x y z : List ℕ) → text_cmp x y ≡ Less → ordering_index (text_cmp x z) ≤ ordering_index (text_cmp y z)
nearer x y z before = by (text_cmp x z) refl where
  by : (o : Ordering) → text_cmp x z ≡ o → ordering_index o ≤ ordering_index (text_cmp y z)
  by Less is = omega arith
  by Equal is = let above = ap ordering_index (ap (text_cmp y) (sym (same_text x z is)) ∙ reversed x y Less before) in omega (arith, above)
  by Greater is = let above = ap ordering_index (reversed z y Less (nat_list_cmp_total.trans z x y (reversed x z Greater is) before)) in omega (arith, above)

-- how risen objects compare with one never falls
rising_compare : (object : ObjectId) (os : List ObjectId) → ObjectsRise os → IsNonDecreasingBy (λ other. ordering_index (text_cmp (object_text other) (object_text object))) os
rising_compare object os rising i j d le within = elim (eq-or-lt_of_le le) [
  | inl same ↦ let equal = ap (λ k. ordering_index (text_cmp (object_text (get_or os k d)) (object_text object))) same in omega (arith, equal)
  | inr lt ↦ nearer (object_text (get_or os i d)) (object_text (get_or os j d)) (object_text object) (rising i j d lt within)
]

-- what a search for an object answers where it stands, and where it belongs
abbrev pub StandsAt : ObjectId → List ObjectId → ℕ → Type 0
StandsAt object os i = (i < length os) × HoldsAt (λ other. text_cmp (object_text other) (object_text object) ≡ Equal) os i

abbrev pub BelongsAt : ObjectId → List ObjectId → ℕ → Type 0
BelongsAt object os i =
    (i ≤ length os) × (IsNonDecreasingBy (λ other. ordering_index (text_cmp (object_text other) (object_text object))) os
    → IsPartitionPoint (λ other. text_cmp (object_text other) (object_text object) ≡ Less) (λ other. text_cmp (object_text other) (object_text object) ≡ Greater) os i)

found_there : (object : ObjectId) (os : List ObjectId) → ObjectsRise os → (i : ℕ) → i < length os
    → text_cmp (object_text (get_or os i object)) (object_text object) ≡ Equal → put_object object os ≡ os
found_there object [] rising i within e = let no : ⊥ = omega (arith, within) in absurd no
found_there object (first ∷ os) rising zero within e = put_by object first os Equal (reversed (object_text first) (object_text object) Equal e)
found_there object (first ∷ os) rising (suc k) within e =
    let below : k < length os = omega (arith, within) in
    let before = subst (λ t. text_cmp (object_text first) t ≡ Less) (same_text (object_text (get_or os k object)) (object_text object) e) (pairs_head IsBefore first os rising k object below) in
    put_by object first os Greater (reversed (object_text first) (object_text object) Less before)
    ∙ ap (λ l. first ∷ l) (found_there object os (pairs_tail IsBefore first os rising) k below e)

-- another is put behind those before it
placed_there : (object : ObjectId) (os : List ObjectId) (i : ℕ) → i ≤ length os
    → AllWithin (λ other. text_cmp (object_text other) (object_text object) ≡ Less) os 0 i
    → AllWithin (λ other. text_cmp (object_text other) (object_text object) ≡ Greater) os i (length os) → put_object object os ≡ insert os i object
placed_there object [] zero le less greater = refl
placed_there object [] (suc k) le less greater = let no : ⊥ = omega (arith, le) in absurd no
placed_there object (first ∷ os) zero le less greater = put_by object first os Less (reversed (object_text first) (object_text object) Greater (greater 0 first (omega arith) (omega arith)))
placed_there object (first ∷ os) (suc k) le less greater =
    put_by object first os Greater (reversed (object_text first) (object_text object) Less (less 0 first (omega arith) (omega arith)))
    ∙ ap (λ l. first ∷ l) (placed_there object os k (omega (arith, le)) (λ j d low high. less (suc j) d (omega arith) (omega (arith, high))) (λ j d low high. greater (suc j) d (omega (arith, low)) (omega (arith, high))))

-- an object that stands there is put nowhere else
pub put_found : (object : ObjectId) (os : List ObjectId) → ObjectsRise os → (i : ℕ) → StandsAt object os i → put_object object os ≡ os
put_found object os rising i (within, equal) = found_there object os rising i within (equal object)

pub put_placed : (object : ObjectId) (os : List ObjectId) (i : ℕ) → ObjectsRise os → BelongsAt object os i → put_object object os ≡ insert os i object
put_placed object os i rising (within, parted) = let point = parted (rising_compare object os rising) in placed_there object os i within point.0 point.1
