-- The rows of a log: what one entry more makes of them, and what a filter does.
use Rattle.std.proofs.Common.{◌≡◌, ℕ, ◌+◌, ◌<◌, ◌≤◌, Bool, true, false, cond, zero, suc, IsTrue, List, [], ◌∷◌, ◌++◌, length, map, get_or, take, drop, drop-cons, ◌⊎◌, inl, inr, refl, sym, ap, subst, ◌∙◌, arith}
use Rattle.std.specs.declared.cmp.Ordering.{Ordering}
use Rattle.std.specs.declared.cmp.Ordering.TheVariants.{Less, Equal, Greater}
use Rattle.std.specs.List.{filter, insert, remove, list_any}
use Rattle.std.proofs.lemmas.List.Sorted.{IsPermutation-map, list_any-IsPermutation}
use Rattle.std.specs.Ordering.{is_le, is_eq}
use Rattle.std.proofs.lemmas.Bool.{cond-true, cond-false, false≢true}
use Rattle.std.proofs.lemmas.Cmp.{tied_itself}
use Rattle.std.proofs.Math.Dec.{leb}
use Rattle.op_base.specs.Message.{fits}
use Rattle.op_base.specs.Order.{object_cmp}
use Rattle.op_base.specs.declared.message.Entry.{Entry}
use Rattle.op_base.specs.declared.name.ObjectId.{ObjectId}
use Rattle.causal_model.specs.Log.{message_of}
use Rattle.causal_model.proofs.Answers.Rules.{object_from_same}
use Rattle.polog.specs.Value.{is_of}
use Rattle.polog.specs.Order.{Each, Pairwise, place, in_order, items_of}
use Rattle.polog.specs.Rows.{StandsBefore, IsLaid, arrived}
use Rattle.polog.proofs.Orders.{each-join, each-parts, each-weaker, each-filter, pairwise-more, pairwise-less, pairwise-weaker, items-join, in_order-more, told, items-filter, in_order-same, filter-in_order}
use Rattle.polog.proofs.Places.{above-from, objects_total}
use Rattle.polog.proofs.Moves.{Apart, in_order-moved}

-- ---- how many there are

length-place : {E : Type 0} (r : ℕ × E) (rs : List (ℕ × E)) → length (place r rs) ≡ length rs + 1
length-place r [] = refl
length-place r (s ∷ rs) = elim (leb r.0 s.0) as (λ b. length (cond b (r ∷ s ∷ rs) (s ∷ place r rs)) ≡ length (s ∷ rs) + 1) [
  | true ↦ omega arith
  | false ↦ let rest = length-place r rs in omega (arith, rest)
]

pub length-in_order : {E : Type 0} (rs : List (ℕ × E)) → length (in_order rs) ≡ length rs
length-in_order [] = refl
length-in_order (s ∷ ss) = let rest = length-in_order ss in let one = length-place s (in_order ss) in omega (arith, rest, one)

pub length-items : {E : Type 0} (rs : List (ℕ × E)) → length (items_of rs) ≡ length rs
length-items [] = refl
length-items (r ∷ rs) = ap suc (length-items rs)

pub length-arrived : (rs : List (ℕ × Entry)) → length (arrived rs) ≡ length rs
length-arrived rs = length-items (in_order rs) ∙ length-in_order rs

-- ---- by object

before-or-at : (a b : ObjectId) (m n : ℕ) (o : Ordering) → object_cmp a b ≡ o → is_le o ≡ true → m < n → (object_cmp a b ≡ Less) ⊎ ((object_cmp a b ≡ Equal) × (m < n))
before-or-at a b m n Less h t l = inl h
before-or-at a b m n Equal h t l = inr (h, l)
before-or-at a b m n Greater h t l = absurd (false≢true t)

rises : (a b : ℕ × Entry) → StandsBefore a b → is_le (object_cmp a.1.update.object b.1.update.object) ≡ true
rises a b stands = elim stands.0 [ inl less ↦ ap is_le less | inr same ↦ ap is_le same.0 ]

pub by-object : (rs : List (ℕ × Entry)) → Pairwise StandsBefore rs → Pairwise (λ a b. is_le (object_cmp a.update.object b.update.object) ≡ true) (items_of rs)
by-object [] pairs = tt
by-object (r ∷ rs) pairs = (first rs pairs.0, by-object rs pairs.1) where
  first : (ss : List (ℕ × Entry)) → Each (StandsBefore r) ss → Each (λ b. is_le (object_cmp r.1.update.object b.update.object) ≡ true) (items_of ss)
  first [] each = tt
  first (s ∷ ss) each = (rises r s each.0, first ss each.1)

pub apart-from-laid : (rs : List (ℕ × Entry)) → Pairwise StandsBefore rs → Apart rs
apart-from-laid rs pairs = pairwise-weaker StandsBefore (λ a b. a.0 ≡ b.0 → ⊥) (λ a b stands. stands.1) rs pairs

-- ---- one entry more

pub each-both : {A : Type 0} (P Q : A → Type 0) (xs : List A) → Each P xs → Each Q xs → Each (λ x. P x × Q x) xs
each-both P Q [] first second = tt
each-both P Q (x ∷ xs) first second = ((first.0, second.0), each-both P Q xs first.1 second.1)

pub joined : {A : Type 0} (i : ℕ) (xs : List A) → take i xs ++ drop i xs ≡ xs
joined zero [] = refl
joined zero (x ∷ xs) = refl
joined (suc i) [] = refl
joined (suc i) (x ∷ xs) = ap (λ ys. x ∷ ys) (joined i xs)

pub items-take : {E : Type 0} (k : ℕ) (rs : List (ℕ × E)) → take k (items_of rs) ≡ items_of (take k rs)
items-take zero [] = refl
items-take zero (r ∷ rs) = refl
items-take (suc k) [] = refl
items-take (suc k) (r ∷ rs) = ap (λ xs. r.1 ∷ xs) (items-take k rs)

pub items-drop : {E : Type 0} (k : ℕ) (rs : List (ℕ × E)) → drop k (items_of rs) ≡ items_of (drop k rs)
items-drop zero [] = refl
items-drop zero (r ∷ rs) = refl
items-drop (suc k) [] = refl
items-drop (suc k) (r ∷ rs) = items-drop k rs

pub each-of-items : {E : Type 0} (P : E → Type 0) (rs : List (ℕ × E)) → Each P (items_of rs) → Each (λ r. P r.1) rs
each-of-items P [] each = tt
each-of-items P (r ∷ rs) each = (each.0, each-of-items P rs each.1)

-- an entry put between those that stand no higher and those that stand higher
pub laid-between : (n next : ℕ) (front back : List (ℕ × Entry)) (e : Entry) → IsLaid n next (front ++ back)
    → Each (λ x. is_le (object_cmp x.1.update.object e.update.object) ≡ true) front → Each (λ x. is_le (object_cmp x.1.update.object e.update.object) ≡ false) back
    → IsTrue (fits n (message_of e)) → IsLaid n (next + 1) (front ++ (next, e) ∷ back)
laid-between n next front back e laid low high fit =
    let r : ℕ × Entry = (next, e) in
    let below = each-parts (λ x. x.0 < next) front back laid.below in
    let Q : ℕ × Entry → Type 0 = λ x. IsTrue (fits n (message_of x.1)) in
    let fitting = each-parts Q front back laid.fit in
    let before = each-weaker (λ x. (is_le (object_cmp x.1.update.object e.update.object) ≡ true) × (x.0 < next)) (λ x. StandsBefore x r)
    (λ x h. (before-or-at x.1.update.object e.update.object x.0 next (object_cmp x.1.update.object e.update.object) refl h.0 h.1, λ t. omega (arith, h.1, t)))
    front (each-both _ _ front low below.0) in
    let after = each-weaker (λ x. (is_le (object_cmp x.1.update.object e.update.object) ≡ false) × (x.0 < next)) (λ x. StandsBefore r x)
    (λ x h. (inl (above-from x.1.update.object e.update.object h.0), λ t. omega (arith, h.1, t)))
    back (each-both _ _ back high below.1) in
    let up : (rs : List (ℕ × Entry)) → Each (λ x. x.0 < next) rs → Each (λ x. x.0 < next + 1) rs = each-weaker (λ x. x.0 < next) (λ x. x.0 < next + 1) (λ x l. omega (arith, l)) in
    record {
      grouped = pairwise-more StandsBefore front back r before after laid.grouped;
      below = each-join (λ x. x.0 < next + 1) front (r ∷ back) (up front below.0) (omega arith, up back below.1);
      fit = each-join Q front (r ∷ back) fitting.0 (fit, fitting.1);
    }

-- an entry put behind all that stand no higher
pub laid-more : (n next at : ℕ) (rs : List (ℕ × Entry)) (e : Entry) → IsLaid n next rs
    → Each (λ f. is_le (object_cmp f.update.object e.update.object) ≡ true) (take at (items_of rs)) → Each (λ f. is_le (object_cmp f.update.object e.update.object) ≡ false) (drop at (items_of rs))
    → IsTrue (fits n (message_of e)) → IsLaid n (next + 1) (insert rs at (next, e))
laid-more n next at rs e laid lower higher fit =
    let low = each-of-items (λ f. is_le (object_cmp f.update.object e.update.object) ≡ true) (take at rs) (subst (Each (λ f. is_le (object_cmp f.update.object e.update.object) ≡ true)) (items-take at rs) lower) in
    let high = each-of-items (λ f. is_le (object_cmp f.update.object e.update.object) ≡ false) (drop at rs) (subst (Each (λ f. is_le (object_cmp f.update.object e.update.object) ≡ false)) (items-drop at rs) higher) in
    laid-between n next (take at rs) (drop at rs) e (subst (IsLaid n next) (sym (joined at rs)) laid) low high fit

-- wherever it is put, it arrived last
pub arrived-between : (n next : ℕ) (front back : List (ℕ × Entry)) (e : Entry) → IsLaid n next (front ++ back) → arrived (front ++ (next, e) ∷ back) ≡ arrived (front ++ back) ++ e ∷ []
arrived-between n next front back e laid =
    ap items_of (in_order-more front back (next, e) laid.below) ∙ items-join (in_order (front ++ back)) ((next, e) ∷ [])

pub arrived-more : (n next at : ℕ) (rs : List (ℕ × Entry)) (e : Entry) → IsLaid n next rs → arrived (insert rs at (next, e)) ≡ arrived rs ++ e ∷ []
arrived-more n next at rs e laid =
    arrived-between n next (take at rs) (drop at rs) e (subst (IsLaid n next) (sym (joined at rs)) laid) ∙ ap (λ xs. arrived xs ++ e ∷ []) (joined at rs)

-- ---- one object

-- what holds of each two that pass, of the list of those that pass
pub pairwise-filter : {A : Type 0} (p : A → Bool) (R S : A → A → Type 0) → ((x y : A) → p x ≡ true → p y ≡ true → R x y → S x y) → (xs : List A) → Pairwise R xs → Pairwise S (filter p xs)
pairwise-filter p R S weaker [] pairs = tt
pairwise-filter p R S weaker (x ∷ xs) pairs = elim (told (p x)) [
  | inl t ↦ subst (Pairwise S) (sym (cond-true (p x) _ _ t)) (of_first x t xs pairs.0, pairwise-filter p R S weaker xs pairs.1)
  | inr t ↦ subst (Pairwise S) (sym (cond-false (p x) _ _ t)) (pairwise-filter p R S weaker xs pairs.1)
] where
  of_first : (y : _) → p y ≡ true → (ys : List _) → Each (R y) ys → Each (S y) (filter p ys)
  of_first y t [] each = tt
  of_first y t (z ∷ zs) each = elim (told (p z)) [
    | inl u ↦ subst (Each (S y)) (sym (cond-true (p z) _ _ u)) (weaker y z t u each.0, of_first y t zs each.1)
    | inr u ↦ subst (Each (S y)) (sym (cond-false (p z) _ _ u)) (of_first y t zs each.1)
  ]

-- two entries of one object stand in the order of their arrival
in-turn : (object : ObjectId) (a b : ℕ × Entry) → is_of object a.1 ≡ true → is_of object b.1 ≡ true → StandsBefore a b → a.0 ≤ b.0
in-turn object a b first second stands = elim stands.0 [
  | inl less ↦
      let one : a.1.update.object ≡ b.1.update.object = object_from_same a.1.update.object object first ∙ sym (object_from_same b.1.update.object object second) in
      let tied : Less ≡ Equal = sym less ∙ ap (object_cmp a.1.update.object) (sym one) ∙ tied_itself objects_total a.1.update.object in
      absurd (false≢true (ap is_eq tied))
  | inr same ↦ omega (arith, same.1)
]

-- the entries of an object are those of the log
pub of-object : (object : ObjectId) (rs : List (ℕ × Entry)) → Pairwise StandsBefore rs → filter (is_of object) (items_of rs) ≡ filter (is_of object) (arrived rs)
of-object object rs grouped =
    let p : ℕ × Entry → Bool = λ r. is_of object r.1 in
    let rise = pairwise-filter p StandsBefore (λ a b. a.0 ≤ b.0) (in-turn object) rs grouped in
    items-filter (is_of object) rs
    ∙ ap items_of (sym (in_order-same (filter p rs) rise) ∙ sym (filter-in_order p rs))
    ∙ sym (items-filter (is_of object) (in_order rs))

-- ---- a filter

pub arrived-filter : (p : Entry → Bool) (rs : List (ℕ × Entry)) → arrived (filter (λ r. p r.1) rs) ≡ filter p (arrived rs)
arrived-filter p rs = ap items_of (sym (filter-in_order (λ r. p r.1) rs)) ∙ sym (items-filter p (in_order rs))

pub laid-filter : (n next : ℕ) (p : ℕ × Entry → Bool) (rs : List (ℕ × Entry)) → IsLaid n next rs → IsLaid n next (filter p rs)
laid-filter n next p rs laid = record {
  grouped = pairwise-filter p StandsBefore StandsBefore (λ a b s t stands. stands) rs laid.grouped;
  below = each-filter (λ r. r.0 < next) p rs laid.below;
  fit = each-filter (λ r. IsTrue (fits n (message_of r.1))) p rs laid.fit;
}

-- ---- rows taken out

pub each-taken : {A : Type 0} (P : A → Type 0) (i : ℕ) (xs : List A) → Each P xs → Each P (take i xs)
each-taken P i xs each = (each-parts P (take i xs) (drop i xs) (subst (Each P) (sym (joined i xs)) each)).0

pub each-left : {A : Type 0} (P : A → Type 0) (i : ℕ) (xs : List A) → Each P xs → Each P (drop i xs)
each-left P i xs each = (each-parts P (take i xs) (drop i xs) (subst (Each P) (sym (joined i xs)) each)).1

pub each-cut : {A : Type 0} (P : A → Type 0) (xs : List A) (i j : ℕ) → Each P xs → Each P (take i xs ++ drop j xs)
each-cut P xs i j each = each-join P (take i xs) (drop j xs) (each-taken P i xs each) (each-left P j xs each)

pub laid-remove : (n next k : ℕ) (rs : List (ℕ × Entry)) (d : ℕ × Entry) → k < length rs → IsLaid n next rs → IsLaid n next (remove rs k)
laid-remove n next k rs d inside laid =
    let whole : take k rs ++ get_or rs k d ∷ drop (suc k) rs ≡ rs = ap (λ xs. take k rs ++ xs) (sym (drop-cons rs k d inside)) ∙ joined k rs in
    record {
      grouped = pairwise-less StandsBefore (take k rs) (drop (suc k) rs) (get_or rs k d) (subst (Pairwise StandsBefore) (sym whole) laid.grouped);
      below = each-cut (λ r. r.0 < next) rs k (suc k) laid.below;
      fit = each-cut (λ r. IsTrue (fits n (message_of r.1))) rs k (suc k) laid.fit;
    }

-- ---- what is asked of any entry

items-map : {E : Type 0} (rs : List (ℕ × E)) → items_of rs ≡ map (λ r. r.1) rs
items-map [] = refl
items-map (r ∷ rs) = ap (λ xs. r.1 ∷ xs) (items-map rs)

pub any-arrived : (p : Entry → Bool) (rs : List (ℕ × Entry)) → list_any p (items_of rs) ≡ list_any p (arrived rs)
any-arrived p rs =
    ap (list_any p) (items-map rs)
    ∙ list_any-IsPermutation p (map (λ r. r.1) rs) (map (λ r. r.1) (in_order rs)) (IsPermutation-map (λ r. r.1) rs (in_order rs) (in_order-moved rs))
    ∙ ap (list_any p) (sym (items-map (in_order rs)))
