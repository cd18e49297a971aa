-- Maps of filled items with equal cells have equal lengths, and are equal lists where both are in the one order.
use Rattle.std.proofs.Common.{◌≡◌, ℕ, ◌+◌, Bool, true, false, not, All, AllPairs, IsTrue, List, [], ◌∷◌, length, cond, suc, refl, sym, ap, ◌∙◌, inl, inr, Option, if◌then◌else◌, arith}
use Rattle.std.specs.List.{filter}
use Rattle.std.specs.Ordering.{is_eq, ordering_reverse}
use Rattle.std.specs.declared.cmp.Ordering.{Ordering}
use Rattle.std.specs.declared.cmp.Ordering.TheVariants.{Less, Equal, Greater}
use Rattle.std.proofs.lemmas.Bool.{both_ways, cases_Bool, cond-true, cond-false, cond_both, false≢true, false_from_ne_true, not_from_true, not_from_false}
use Rattle.std.proofs.lemmas.Cmp.{tied_itself, tied_back}
use Rattle.std.proofs.lemmas.List.Elements.{All-cons, All-weaker, All-head, All-tail, All-filter}
use Rattle.std.proofs.lemmas.List.Kept.{AllPairs-filter}
use Rattle.op_base.specs.Order.{item_cmp}
use Rattle.op_base.specs.declared.name.ObjectId.{ObjectId}
use Rattle.op_base.specs.declared.outcome.Cell.{Cell}
use Rattle.op_base.specs.declared.outcome.Item.{Item}
use Rattle.op_base.proofs.Orders.{items_tied}
use Rattle.causal_model.specs.Items.{zero_cell, is_at, cell_in, is_filled, AreApart, Rise, AreFilled}
use Rattle.causal_model.specs.Laws.Cells.{SameCells}
use Rattle.causal_model.proofs.Cells.Places.{places_total, is_equal}

-- ---- pairs, by recursion on the list

pub AllPairs-tail : {X : Type 0} (R : X → X → Type 0) (x : X) (xs : List X) → AllPairs R (x ∷ xs) → AllPairs R xs
AllPairs-tail R x xs pairs = λ i j d lt within. pairs (suc i) (suc j) d (omega (arith, lt)) (omega (arith, within))

pub AllPairs-head : {X : Type 0} (R : X → X → Type 0) (x : X) (xs : List X) → AllPairs R (x ∷ xs) → All (R x) xs
AllPairs-head R x xs pairs = λ k d l. pairs 0 (suc k) d (omega arith) (omega (arith, l))

-- ---- items at one place

abbrev cmp : Item → Item → Ordering
cmp a b = item_cmp a.object a.value b.object b.value

tied : (a b : Item) → cmp a b ≡ Equal → (a.object ≡ b.object) × (a.value ≡ b.value)
tied a b e = items_tied a.object b.object a.value b.value e

-- an item that is elsewhere than the item, where it is not tied to it
elsewhere : (o : Ordering) → is_eq o ≡ false → is_eq (ordering_reverse o) ≡ false
elsewhere Less t = refl
elsewhere Equal t = t
elsewhere Greater t = refl

-- the cell at an item's own place is its cell
own_cell : (x : Item) (xs : List Item) → cell_in (x ∷ xs) x.object x.value ≡ x.cell
own_cell x xs = cond-true (is_at x.object x.value x) x.cell (cell_in xs x.object x.value) (ap is_eq (tied_itself places_total (x.object, x.value)))

-- where no item is at a place, its cell is the zero cell
no_cell : (object : ObjectId) (value : Option (List ℕ)) (xs : List Item) → All (λ y. is_at object value y ≡ false) xs → cell_in xs object value ≡ zero_cell
no_cell object value [] none = refl
no_cell object value (x ∷ xs) none =
    cond-false (is_at object value x) x.cell (cell_in xs object value) (All-head (λ y. is_at object value y ≡ false) x xs none) ∙ no_cell object value xs (All-tail (λ y. is_at object value y ≡ false) x xs none)

filled_is_not_zero : (cell : Cell) → is_filled cell ≡ true → cell ≡ zero_cell → ⊥
filled_is_not_zero cell filled zero = both_ways (is_filled cell) (ap is_filled zero) filled

-- items after one that is at a place are elsewhere
later_are_elsewhere : (x : Item) (xs : List Item) (object : ObjectId) (value : Option (List ℕ)) → AreApart (x ∷ xs) → is_at object value x ≡ true → All (λ z. is_at object value z ≡ false) xs
later_are_elsewhere x xs object value apart here =
    let same = places_total.congr (x.object, x.value) (object, value) in
    All-weaker (λ z. is_at z.object z.value x ≡ false) (λ z. is_at object value z ≡ false) (λ z other.
    ap is_eq (places_total.antisymm (z.object, z.value) (object, value))
    ∙ elsewhere (item_cmp object value z.object z.value) (ap is_eq (sym (same (z.object, z.value) (is_equal (item_cmp x.object x.value object value) here))) ∙ other)) xs (AllPairs-head (λ (a b : Item). is_at b.object b.value a ≡ false) x xs apart)

-- ---- lists in the one order

pub rising_are_apart : (items : List Item) → Rise items → AreApart items
rising_are_apart items rise = λ i j d lt within. ap is_eq (rise i j d lt within)

-- no item is at a place that is before the first
none_before_first : (x y : Item) (ys : List Item) → cmp x y ≡ Less → Rise (y ∷ ys) → cell_in (y ∷ ys) x.object x.value ≡ zero_cell
none_before_first x y ys before rise =
    let back : (z : Item) → cmp x z ≡ Less → is_at x.object x.value z ≡ false = λ z less. ap is_eq (places_total.antisymm (z.object, z.value) (x.object, x.value) ∙ ap ordering_reverse less) in
    no_cell x.object x.value (y ∷ ys) (All-cons (λ z. is_at x.object x.value z ≡ false) y ys (back y before) (All-weaker (λ z. cmp y z ≡ Less) (λ z. is_at x.object x.value z ≡ false) (λ z after.
    back z (places_total.trans (x.object, x.value) (y.object, y.value) (z.object, z.value) before after)) ys (AllPairs-head (λ (a b : Item). cmp a b ≡ Less) y ys rise)))

-- the cells of the rest of two lists that begin at one place
rest_is_same : (x y : Item) (xs ys : List Item) → cmp x y ≡ Equal → AreApart (x ∷ xs) → AreApart (y ∷ ys) → SameCells (x ∷ xs) (y ∷ ys) → SameCells xs ys
rest_is_same x y xs ys is apart other same object value =
    let one : is_at object value x ≡ is_at object value y = ap is_eq (places_total.congr (x.object, x.value) (y.object, y.value) (object, value) is) in
    elim (cases_Bool (is_at object value x)) [
      | inl here ↦
          no_cell object value xs (later_are_elsewhere x xs object value apart here)
          ∙ sym (no_cell object value ys (later_are_elsewhere y ys object value other (sym one ∙ here)))
      | inr away ↦
          sym (cond-false (is_at object value x) x.cell (cell_in xs object value) away) ∙ same object value
          ∙ cond-false (is_at object value y) y.cell (cell_in ys object value) (sym one ∙ away)
    ]

pub same_cells_same_list : (xs ys : List Item) → Rise xs → Rise ys → AreFilled xs → AreFilled ys → SameCells xs ys → xs ≡ ys
same_cells_same_list [] [] rise rises filled fills same = refl
same_cells_same_list [] (y ∷ ys) rise rises filled fills same =
    absurd (filled_is_not_zero y.cell (All-head (λ z. IsTrue (is_filled z.cell)) y ys fills) (sym (own_cell y ys) ∙ sym (same y.object y.value)))
same_cells_same_list (x ∷ xs) [] rise rises filled fills same =
    absurd (filled_is_not_zero x.cell (All-head (λ z. IsTrue (is_filled z.cell)) x xs filled) (sym (own_cell x xs) ∙ same x.object x.value))
same_cells_same_list (x ∷ xs) (y ∷ ys) rise rises filled fills same = by (cmp x y) refl (same_cells_same_list xs ys) where
  by : (o : Ordering) → cmp x y ≡ o → (Rise xs → Rise ys → AreFilled xs → AreFilled ys → SameCells xs ys → xs ≡ ys) → (x ∷ xs) ≡ (y ∷ ys)
  by Less is rest = absurd (filled_is_not_zero x.cell (All-head (λ z. IsTrue (is_filled z.cell)) x xs filled) (sym (own_cell x xs) ∙ same x.object x.value ∙ none_before_first x y ys is rises))
  by Equal is rest =
      let place = tied x y is in
      let cell : x.cell ≡ y.cell = sym (own_cell x xs) ∙ same x.object x.value ∙ (λ i. cell_in (y ∷ ys) (place.0 i) (place.1 i)) ∙ own_cell y ys in
      let later : xs ≡ ys = rest (AllPairs-tail (λ (a b : Item). cmp a b ≡ Less) x xs rise) (AllPairs-tail (λ (a b : Item). cmp a b ≡ Less) y ys rises) (All-tail (λ z. IsTrue (is_filled z.cell)) x xs filled) (All-tail (λ z. IsTrue (is_filled z.cell)) y ys fills)
      (rest_is_same x y xs ys is (rising_are_apart (x ∷ xs) rise) (rising_are_apart (y ∷ ys) rises) same) in
      λ i. record { object = place.0 i; value = place.1 i; cell = cell i } ∷ later i
  by Greater is rest =
      let before : cmp y x ≡ Less = places_total.antisymm (y.object, y.value) (x.object, x.value) ∙ ap ordering_reverse is in
      absurd (filled_is_not_zero y.cell (All-head (λ z. IsTrue (is_filled z.cell)) y ys fills) (sym (own_cell y ys) ∙ sym (same y.object y.value) ∙ none_before_first y x xs before rise))

-- ---- lengths

pub filter_all_of : {X : Type 0} (p : X → Bool) (xs : List X) → All (λ x. p x ≡ true) xs → filter p xs ≡ xs
filter_all_of p [] each = refl
filter_all_of p (x ∷ xs) each =
    cond-true (p x) (x ∷ filter p xs) (filter p xs) (All-head (λ y. p y ≡ true) x xs each) ∙ ap (λ ys. x ∷ ys) (filter_all_of p xs (All-tail (λ y. p y ≡ true) x xs each))

module _ (x : Item) where
  abbrev is_away : Item → Bool
  is_away y = not (is_at x.object x.value y)

  kept_cell : (there at_y at_x : Bool) (here later rest : Cell) → (there ≡ true → at_y ≡ at_x) → (there ≡ false → at_y ≡ true → at_x ≡ false) → rest ≡ (if at_x then zero_cell else later)
      → (if not there then (if at_y then here else rest) else rest) ≡ (if at_x then zero_cell else (if at_y then here else later))
  kept_cell true true true here later rest one apart is = is
  kept_cell true false true here later rest one apart is = is
  kept_cell true true false here later rest one apart is = absurd (false≢true (sym (one refl)))
  kept_cell true false false here later rest one apart is = is
  kept_cell false true true here later rest one apart is = absurd (false≢true (sym (apart refl refl)))
  kept_cell false false true here later rest one apart is = is
  kept_cell false true false here later rest one apart is = refl
  kept_cell false false false here later rest one apart is = is

  -- without the items at one place, the cell there is the zero cell, and each other one stays
  away_cell : (ys : List Item) (object : ObjectId) (value : Option (List ℕ)) → cell_in (filter is_away ys) object value ≡ (if is_at object value x then zero_cell else cell_in ys object value)
  away_cell [] object value = sym (cond_both (is_at object value x) zero_cell zero_cell (λ cell. cell ≡ zero_cell) (λ _. refl) (λ _. refl))
  away_cell (y ∷ ys) object value =
      let rest : List Item = filter is_away ys in
      let split : (b : Bool) → cell_in (cond b (y ∷ rest) rest) object value ≡ (if b then (if is_at object value y then y.cell else cell_in rest object value) else cell_in rest object value) = λ b. elim b as (λ b. cell_in (cond b (y ∷ rest) rest) object value ≡ (if b then (if is_at object value y then y.cell else cell_in rest object value) else cell_in rest object value)) [ true ↦ refl | false ↦ refl ] in
      let one : is_at x.object x.value y ≡ true → is_at object value y ≡ is_at object value x = λ here. ap is_eq (places_total.congr (y.object, y.value) (x.object, x.value) (object, value) (is_equal (cmp y x) here)) in
      let apart : is_at x.object x.value y ≡ false → is_at object value y ≡ true → is_at object value x ≡ false = λ away here. false_from_ne_true (is_at object value x) (λ there.
      let back : item_cmp object value x.object x.value ≡ Equal = tied_back places_total (x.object, x.value) (object, value) (is_equal (item_cmp x.object x.value object value) there) in
      both_ways (is_at x.object x.value y) away (ap is_eq (places_total.congr (y.object, y.value) (object, value) (x.object, x.value) (is_equal (item_cmp y.object y.value object value) here) ∙ back))) in
      split (is_away y) ∙ kept_cell (is_at x.object x.value y) (is_at object value y) (is_at object value x) y.cell (cell_in ys object value) (cell_in rest object value) one apart (away_cell ys object value)

  -- where one item is at the place and no two are, one goes
  one_goes : (ys : List Item) → AreApart ys → (cell_in ys x.object x.value ≡ zero_cell → ⊥) → length ys ≡ length (filter is_away ys) + 1
  one_goes [] apart there = absurd (there refl)
  one_goes (y ∷ ys) apart there = elim (cases_Bool (is_at x.object x.value y)) [
    | inl here ↦
        let stay : filter is_away ys ≡ ys = filter_all_of is_away ys (All-weaker (λ z. is_at x.object x.value z ≡ false) (λ z. is_away z ≡ true) (λ z away. not_from_false (is_at x.object x.value z) away) ys (later_are_elsewhere y ys x.object x.value apart here)) in
        let goes : filter is_away (y ∷ ys) ≡ ys = cond-false (is_away y) (y ∷ filter is_away ys) (filter is_away ys) (not_from_true (is_at x.object x.value y) here) ∙ stay in
        omega (arith, ap length goes)
    | inr away ↦
        let more : length ys ≡ length (filter is_away ys) + 1 = one_goes ys (AllPairs-tail (λ (a b : Item). is_at b.object b.value a ≡ false) y ys apart) (λ none. there (cond-false (is_at x.object x.value y) y.cell (cell_in ys x.object x.value) away ∙ none)) in
        let stays : filter is_away (y ∷ ys) ≡ (y ∷ filter is_away ys) = cond-true (is_away y) (y ∷ filter is_away ys) (filter is_away ys) (not_from_false (is_at x.object x.value y) away) in
        omega (arith, ap length stays, more)
  ]

pub same_cells_same_length : (xs ys : List Item) → AreApart xs → AreApart ys → AreFilled xs → AreFilled ys → SameCells xs ys → length xs ≡ length ys
same_cells_same_length [] [] apart aparts filled fills same = refl
same_cells_same_length [] (y ∷ ys) apart aparts filled fills same =
    absurd (filled_is_not_zero y.cell (All-head (λ z. IsTrue (is_filled z.cell)) y ys fills) (sym (own_cell y ys) ∙ sym (same y.object y.value)))
same_cells_same_length (x ∷ xs) ys apart aparts filled fills same =
    let away : List Item = filter (is_away x) ys in
    let there : cell_in ys x.object x.value ≡ zero_cell → ⊥ = λ none. filled_is_not_zero x.cell (All-head (λ z. IsTrue (is_filled z.cell)) x xs filled) (sym (own_cell x xs) ∙ same x.object x.value ∙ none) in
    let rest : SameCells xs away = λ object value. elim (cases_Bool (is_at object value x)) [
      | inl here ↦
          no_cell object value xs (later_are_elsewhere x xs object value apart here)
          ∙ sym (away_cell x ys object value ∙ cond-true (is_at object value x) zero_cell (cell_in ys object value) here)
      | inr other ↦
          sym (cond-false (is_at object value x) x.cell (cell_in xs object value) other) ∙ same object value
          ∙ sym (away_cell x ys object value ∙ cond-false (is_at object value x) zero_cell (cell_in ys object value) other)
    ] in
    let shorter : length xs ≡ length away = same_cells_same_length xs away (AllPairs-tail (λ (a b : Item). is_at b.object b.value a ≡ false) x xs apart) (AllPairs-filter (λ (a b : Item). is_at b.object b.value a ≡ false) (is_away x) ys aparts) (All-tail (λ z. IsTrue (is_filled z.cell)) x xs filled) (All-filter (is_away x) (λ z. IsTrue (is_filled z.cell)) ys fills) rest in
    omega (arith, shorter, one_goes x ys aparts there)
