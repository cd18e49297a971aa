-- Objects in their one order, and the place at which a test of rising entries turns.
use Rattle.std.proofs.Common.{◌≡◌, ℕ, ◌+◌, ◌<◌, ◌≤◌, zero, suc, Bool, true, false, List, [], ◌∷◌, length, take, drop, get_or, refl, sym, ap, subst, ◌∙◌, arith}
use Rattle.std.specs.declared.cmp.Ordering.{Ordering}
use Rattle.std.specs.declared.cmp.Ordering.TheVariants.{Less, Equal, Greater}
use Rattle.std.specs.Prelude.{None}
use Rattle.std.specs.Ordering.{ordering_reverse, ordering_then, is_lt, is_le, is_eq}
use Rattle.std.specs.Cmp.Lexicographic.{bytes_decides}
use Rattle.std.specs.Cmp.{IsTotalOrder, both_ways}
use Rattle.std.proofs.lemmas.Bool.{and_from, eq-eqb, false≢true}
use Rattle.std.proofs.lemmas.Cmp.{on_total, then_total, nat_cmp_total, nat_list_cmp_total, tied_itself}
use Rattle.op_base.specs.Order.{object_cmp}
use Rattle.op_base.specs.declared.name.ObjectId.{ObjectId}
use Rattle.op_base.specs.Object.{kind_place, same_object}
use Rattle.op_base.proofs.Orders.{items_tied}
use Rattle.causal_model.proofs.Answers.Rules.{object_from_same}
use Rattle.polog.specs.Order.{Each, Pairwise}

-- ---- places in a list

module _ {A : Type 0} where
  pub any-of : (xs : List A) → 0 < length xs → A
  any-of [] some = absurd (omega (arith, some))
  any-of (x ∷ xs) some = x

  pub each-at : (P : A → Type 0) (xs : List A) → Each P xs → (k : ℕ) (d : A) → k < length xs → P (get_or xs k d)
  each-at P [] each k d l = absurd (omega (arith, l))
  each-at P (x ∷ xs) each zero d l = each.0
  each-at P (x ∷ xs) each (suc k) d l = each-at P xs each.1 k d (omega (arith, l))

  pub each-take : (P : A → Type 0) (xs : List A) (i : ℕ) → ((k : ℕ) (d : A) → k < i → k < length xs → P (get_or xs k d)) → Each P (take i xs)
  each-take P [] zero at = tt
  each-take P [] (suc i) at = tt
  each-take P (x ∷ xs) zero at = tt
  each-take P (x ∷ xs) (suc i) at = (at 0 x (omega arith) (omega arith), each-take P xs i (λ k d l m. at (suc k) d (omega (arith, l)) (omega (arith, m))))

  pub each-drop : (P : A → Type 0) (xs : List A) (i : ℕ) → ((k : ℕ) (d : A) → i ≤ k → k < length xs → P (get_or xs k d)) → Each P (drop i xs)
  each-drop P [] zero at = tt
  each-drop P [] (suc i) at = tt
  each-drop P (x ∷ xs) zero at = (at 0 x (omega arith) (omega arith), each-drop P xs zero (λ k d l m. at (suc k) d (omega arith) (omega (arith, m))))
  each-drop P (x ∷ xs) (suc i) at = each-drop P xs i (λ k d l m. at (suc k) d (omega (arith, l)) (omega (arith, m)))

  -- within a list what stands past its end makes no difference
  pub get-other : (xs : List A) (i : ℕ) (d e : A) → i < length xs → get_or xs i d ≡ get_or xs i e
  get-other [] i d e l = absurd (omega (arith, l))
  get-other (x ∷ xs) zero d e l = refl
  get-other (x ∷ xs) (suc i) d e l = get-other xs i d e (omega (arith, l))

  pub pairwise-at : (R : A → A → Type 0) (xs : List A) → Pairwise R xs → (i j : ℕ) (d : A) → i < j → j < length xs → R (get_or xs i d) (get_or xs j d)
  pairwise-at R [] pairs i j d l m = absurd (omega (arith, m))
  pairwise-at R (x ∷ xs) pairs i zero d l m = absurd (omega (arith, l))
  pairwise-at R (x ∷ xs) pairs zero (suc j) d l m = each-at (R x) xs pairs.0 j d (omega (arith, m))
  pairwise-at R (x ∷ xs) pairs (suc i) (suc j) d l m = pairwise-at R xs pairs.1 i j d (omega (arith, l)) (omega (arith, m))

  pub pairwise-by : (R : A → A → Type 0) (xs : List A) → ((i j : ℕ) (d : A) → i < j → j < length xs → R (get_or xs i d) (get_or xs j d)) → Pairwise R xs
  pairwise-by R [] at = tt
  pairwise-by R (x ∷ xs) at = (
    each-drop (R x) xs 0 (λ k d l m. at 0 (suc k) d (omega arith) (omega (arith, m))),
    pairwise-by R xs (λ i j d l m. at (suc i) (suc j) d (omega (arith, l)) (omega (arith, m))),
  )

  -- where each later item that passes makes each earlier one pass, no item that passes comes after one that fails
  pub passes-first : (p : A → Bool) (xs : List A) → Pairwise (λ a b. p b ≡ true → p a ≡ true) xs → (i j : ℕ) (d : A) → i ≤ j → j < length xs → p (get_or xs j d) ≡ true → p (get_or xs i d) ≡ true
  passes-first p [] pairs i j d l m up = absurd (omega (arith, m))
  passes-first p (x ∷ xs) pairs zero zero d l m up = up
  passes-first p (x ∷ xs) pairs zero (suc j) d l m up = each-at (λ y. p y ≡ true → p x ≡ true) xs pairs.0 j d (omega (arith, m)) up
  passes-first p (x ∷ xs) pairs (suc i) zero d l m up = absurd (omega (arith, l))
  passes-first p (x ∷ xs) pairs (suc i) (suc j) d l m up = passes-first p xs pairs.1 i j d (omega (arith, l)) (omega (arith, m)) up

  -- where the item before a place passes and the one at it fails, those before pass and those from it on fail
  pub passes-before : (p : A → Bool) (xs : List A) → Pairwise (λ a b. p b ≡ true → p a ≡ true) xs → (at j : ℕ) (d : A) → at ≤ j + 1 → j < length xs → p (get_or xs j d) ≡ true
      → Each (λ x. p x ≡ true) (take at xs)
  passes-before p xs pairs at j d l m up =
      each-take (λ x. p x ≡ true) xs at (λ k e below inside. passes-first p xs pairs k j e (omega (arith, l, below)) m (ap p (get-other xs j e d m) ∙ up))

  pub fails-from : (p : A → Bool) (xs : List A) → Pairwise (λ a b. p b ≡ true → p a ≡ true) xs → (at : ℕ) (d : A) → (at < length xs → p (get_or xs at d) ≡ false)
      → Each (λ x. p x ≡ false) (drop at xs)
  fails-from p xs pairs at d fails =
      each-drop (λ x. p x ≡ false) xs at (λ k e above inside. fails-at k e above inside (p (get_or xs k e)) refl) where
        fails-at : (k : ℕ) (e : A) → at ≤ k → k < length xs → (b : Bool) → p (get_or xs k e) ≡ b → p (get_or xs k e) ≡ false
        fails-at k e above inside true up =
            absurd (false≢true (sym (fails (omega (arith, above, inside))) ∙ ap p (get-other xs at d e (omega (arith, above, inside))) ∙ passes-first p xs pairs at k e above inside up))
        fails-at k e above inside false down = down

-- ---- objects

pub objects_total : IsTotalOrder object_cmp
objects_total = then_total (on_total (λ object. kind_place object.kind) nat_cmp_total) (on_total (λ object. object.key) nat_list_cmp_total)

lower : (a b c : ObjectId) (o : Ordering) → object_cmp a b ≡ o → is_le o ≡ true → is_lt (object_cmp b c) ≡ true → is_lt (object_cmp a c) ≡ true
lower a b c Less first t second = ap is_lt (objects_total.trans a b c first (less_from (object_cmp b c) second)) where
  less_from : (o : Ordering) → is_lt o ≡ true → o ≡ Less
  less_from Less h = refl
  less_from Equal h = absurd (false≢true h)
  less_from Greater h = absurd (false≢true h)
lower a b c Equal first t second = ap is_lt (objects_total.congr a b c first) ∙ second
lower a b c Greater first t second = absurd (false≢true t)

-- what stands no higher than what stands below an object stands below it
pub below-from : (a b c : ObjectId) → is_le (object_cmp a b) ≡ true → is_lt (object_cmp b c) ≡ true → is_lt (object_cmp a c) ≡ true
below-from a b c first second = lower a b c (object_cmp a b) refl first second

reversed : (a b : ObjectId) (o : Ordering) → object_cmp b a ≡ o → object_cmp a b ≡ ordering_reverse o
reversed a b o h = objects_total.antisymm a b ∙ ap ordering_reverse h

-- what stands no higher than what stands no higher than an object stands no higher than it
through : (a b c : ObjectId) (o u : Ordering) → object_cmp a b ≡ o → object_cmp b c ≡ u → is_le o ≡ true → is_le u ≡ true → is_le (object_cmp a c) ≡ true
through a b c Less Less first second s t = ap is_le (objects_total.trans a b c first second)
through a b c Less Equal first second s t = ap is_le (reversed a c Greater (objects_total.congr c b a (reversed c b Equal second) ∙ reversed b a Less first))
through a b c Less Greater first second s t = absurd (false≢true t)
through a b c Equal u first second s t = ap is_le (objects_total.congr a b c first ∙ second) ∙ t
through a b c Greater u first second s t = absurd (false≢true s)

pub through-from : (a b c : ObjectId) → is_le (object_cmp a b) ≡ true → is_le (object_cmp b c) ≡ true → is_le (object_cmp a c) ≡ true
through-from a b c first second = through a b c (object_cmp a b) (object_cmp b c) refl refl first second

-- what doesn't stand as high as an object stands above it
above : (a b : ObjectId) (o : Ordering) → object_cmp a b ≡ o → is_le o ≡ false → object_cmp b a ≡ Less
above a b Less h t = absurd (false≢true (sym t))
above a b Equal h t = absurd (false≢true (sym t))
above a b Greater h t = reversed b a Greater h

pub above-from : (a b : ObjectId) → is_le (object_cmp a b) ≡ false → object_cmp b a ≡ Less
above-from a b t = above a b (object_cmp a b) refl t

-- ---- one object

pub same-tied : (a b : ObjectId) → same_object a b ≡ true → object_cmp a b ≡ Equal
same-tied a b same = ap (object_cmp a) (sym (object_from_same a b same)) ∙ tied_itself objects_total a

-- two names are of one object exactly where neither stands before the other
pub same-is-eq : (a b : ObjectId) → same_object a b ≡ is_eq (object_cmp a b)
same-is-eq a b = both_ways (same_object a b) (is_eq (object_cmp a b)) there back where
  there : same_object a b ≡ true → is_eq (object_cmp a b) ≡ true
  there same = ap is_eq (same-tied a b same)

  equal_from : (o : Ordering) → is_eq o ≡ true → o ≡ Equal
  equal_from Less h = absurd (false≢true h)
  equal_from Equal h = refl
  equal_from Greater h = absurd (false≢true h)

  itself : same_object a a ≡ true
  itself = and_from _ _ (eq-eqb (kind_place a.kind) (kind_place a.kind) refl) ((bytes_decides a.key a.key).1 refl)

  back : is_eq (object_cmp a b) ≡ true → same_object a b ≡ true
  back tied = subst (λ o. same_object a o ≡ true) (items_tied a b None None (λ i. ordering_then (equal_from (object_cmp a b) tied i) Equal)).0 itself

pub same-from-one : (a b : ObjectId) → a ≡ b → same_object a b ≡ true
same-from-one a b one = same-is-eq a b ∙ ap is_eq (ap (object_cmp a) (sym one) ∙ tied_itself objects_total a)

not_tied_below : (o : Ordering) → is_lt o ≡ true → is_eq o ≡ false
not_tied_below Less h = refl
not_tied_below Equal h = absurd (false≢true h)
not_tied_below Greater h = refl

not_tied_above : (o : Ordering) → is_le o ≡ false → is_eq o ≡ false
not_tied_above Less h = refl
not_tied_above Equal h = h
not_tied_above Greater h = refl

tied_between : (o : Ordering) → is_lt o ≡ false → is_le o ≡ true → is_eq o ≡ true
tied_between Less h t = sym h
tied_between Equal h t = refl
tied_between Greater h t = t

pub lower-is-le : (o : Ordering) → is_lt o ≡ true → is_le o ≡ true
lower-is-le Less h = refl
lower-is-le Equal h = absurd (false≢true h)
lower-is-le Greater h = h

pub other-below : (a b : ObjectId) → is_lt (object_cmp a b) ≡ true → same_object a b ≡ false
other-below a b h = same-is-eq a b ∙ not_tied_below (object_cmp a b) h

pub other-above : (a b : ObjectId) → is_le (object_cmp a b) ≡ false → same_object a b ≡ false
other-above a b h = same-is-eq a b ∙ not_tied_above (object_cmp a b) h

pub same-between : (a b : ObjectId) → is_lt (object_cmp a b) ≡ false → is_le (object_cmp a b) ≡ true → same_object a b ≡ true
same-between a b h t = same-is-eq a b ∙ tied_between (object_cmp a b) h t

lower_unless_tied : (o : Ordering) → is_le o ≡ true → is_eq o ≡ false → is_lt o ≡ true
lower_unless_tied Less h t = refl
lower_unless_tied Equal h t = sym t
lower_unless_tied Greater h t = h

higher_unless_tied : (o : Ordering) → is_lt o ≡ false → is_eq o ≡ false → is_le o ≡ false
higher_unless_tied Less h t = h
higher_unless_tied Equal h t = t
higher_unless_tied Greater h t = refl

-- what stands no higher than an object and isn't of it stands below it
pub other-is-below : (a b c : ObjectId) → object_cmp b c ≡ Equal → is_le (object_cmp a b) ≡ true → same_object a c ≡ false → is_lt (object_cmp a c) ≡ true
other-is-below a b c tied le other =
    lower_unless_tied (object_cmp a c) (through-from a b c le (ap is_le tied)) (sym (same-is-eq a c) ∙ other)

-- what stands no lower than an object and isn't of it stands above it
pub other-is-above : (a b c : ObjectId) → object_cmp a c ≡ Equal → is_le (object_cmp a b) ≡ true → same_object b c ≡ false → is_le (object_cmp b c) ≡ false
other-is-above a b c tied le other =
    higher_unless_tied (object_cmp b c) (not_below (is_lt (object_cmp b c)) refl) (sym (same-is-eq b c) ∙ other) where
      not_below : (t : Bool) → is_lt (object_cmp b c) ≡ t → is_lt (object_cmp b c) ≡ false
      not_below true up = absurd (false≢true (sym (ap is_lt tied) ∙ below-from a b c le up))
      not_below false down = down
