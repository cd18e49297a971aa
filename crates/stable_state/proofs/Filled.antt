-- Items that have a mark or a sum, and how many have neither, where items are put, let go or get another cell; and each slot that has an item is in the order.
use Rattle.std.proofs.Common.{◌≡◌, ◌≢◌, ◌⊎◌, ℕ, suc, ◌+◌, ◌<◌, ◌≤◌, Bool, true, false, not, All, AllPairs, Contains, List, [], ◌∷◌, ◌++◌, length, take, drop, get_or, set, cond, refl, sym, ap, ◌∙◌, inl, inr, length-append, arith, Option, Some, None, is_some, if◌then◌else◌}
use Rattle.std.specs.List.{filter, between}
use Rattle.std.specs.Ordering.{is_eq, ordering_reverse}
use Rattle.std.specs.declared.cmp.Ordering.TheVariants.{Less}
use Rattle.std.proofs.lemmas.Bool.{cases_Bool, cases_eq, cond-true, cond-false}
use Rattle.std.proofs.lemmas.List.{length-map, length-set, get_or_default, get_or-set_other}
use Rattle.std.proofs.lemmas.List.Edits.{split_between, between_more}
use Rattle.std.proofs.lemmas.List.Elements.{All-cons, All-head, filter-append, filter_passes}
use Rattle.std.proofs.lemmas.List.Filters.{length-filter_both}
use Rattle.std.proofs.lemmas.List.Kept.{AllPairs-cons, AllPairs-filter}
use Rattle.std.proofs.lemmas.List.Sums.{length-filter, sum_by-insert, sum_by-set}
use Rattle.op_base.specs.Order.{item_cmp}
use Rattle.op_base.specs.declared.name.ObjectId.{ObjectId}
use Rattle.op_base.specs.declared.outcome.Cell.{Cell}
use Rattle.op_base.specs.declared.outcome.Item.{Item}
use Rattle.causal_model.specs.Items.{zero_cell, is_at, is_filled, cell_in, Rise, AreFilled}
use Rattle.causal_model.proofs.Cells.ItemMaps.{AllPairs-tail}
use Rattle.causal_model.proofs.Cells.Places.{places_total}
use Rattle.slab.specs.Slab.{Slab, get, ContainsKey, slab_len}
use Rattle.slab.proofs.SlabLemmas.{ContainsKey-within, Contains-cons, Contains-cons_cases}
use Rattle.stable_state.specs.Filled.{filled_of, empties}
use Rattle.stable_state.specs.Places.{with_cell}
use Rattle.stable_state.specs.Shelf.{put_at, without_span}
use Rattle.stable_state.proofs.Cells.{IsAway, same_place, cell-none}
use Rattle.stable_state.proofs.Changes.{unfilled_is_zero}
use Rattle.stable_state.specs.Slots.{no_item, item_in, items_in}
use Rattle.stable_state.proofs.Slots.{item_is, item_at_place}
use Rattle.stable_state.proofs.Ordered.{with_cell_set}

-- ---- each slot that has an item is in the order

-- slots that are apart and have items are no more than there are items
slots_fit : (slots : Slab Item) (order : List ℕ) → All (ContainsKey slots) order → AllPairs (λ a b. a ≢ b) order → length order ≤ slab_len slots
slots_fit slots [] held apart = omega arith
slots_fit slots (slot ∷ order) held apart =
    let less : Slab Item = record slots { slots = set slots.slots slot None } in
    let here : ContainsKey slots slot = All-head (ContainsKey slots) slot order held in
    let one : Option Item → ℕ = λ o. cond (is_some o) 1 0 in
    let had : one (get slots slot) ≡ 1 = ap (λ b. cond b 1 0) here in
    let later : All (ContainsKey less) order = λ k d l.
    ap is_some (get_or-set_other slots.slots slot (get_or order k d) None None (λ same. apart 0 (suc k) d (omega arith) (omega (arith, l)) (sym same)))
    ∙ held (suc k) d (omega (arith, l)) in
    omega (arith, sum_by-set one slots.slots slot None None (ContainsKey-within slots slot here), had, slots_fit less order later (AllPairs-tail (λ a b. a ≢ b) slot order apart))

is_or_is_not : (order : List ℕ) (slot : ℕ) → Contains order slot ⊎ (Contains order slot → ⊥)
is_or_is_not [] slot = inr (λ found. absurd (omega (arith, found.1)))
is_or_is_not (first ∷ order) slot = elim (cases_eq first slot) [
  | inl same ↦ inl (0, omega arith, same)
  | inr ne ↦ elim (is_or_is_not order slot) [
    | inl later ↦ inl (Contains-cons first slot order later)
    | inr none ↦ inr (λ found. elim (Contains-cons_cases first slot order found) [
      | inl same ↦ ne same
      | inr later ↦ none later
    ])
  ]
]

-- where an order has as many slots as there are items, each slot that has an item is in it
pub held_is_ordered : (slots : Slab Item) (order : List ℕ) → All (ContainsKey slots) order → slab_len slots ≡ length order → AllPairs (λ a b. a ≢ b) order → (slot : ℕ) → ContainsKey slots slot → Contains order slot
held_is_ordered slots order held counted apart slot here = elim (is_or_is_not order slot) [
  | inl found ↦ found
  | inr none ↦
      let more : length (slot ∷ order) ≤ slab_len slots = slots_fit slots (slot ∷ order) (All-cons (ContainsKey slots) slot order here held)
      (AllPairs-cons (λ a b. a ≢ b) slot order (λ k d l same. none (k, l, get_or_default order k slot d l ∙ sym same)) apart) in
      absurd (omega (arith, more, counted))
]

-- ---- the items that are filled

-- items behind one that is of an object and a value are of others
later_are_away : (x : Item) (xs : List Item) (object : ObjectId) (value : Option (List ℕ)) → Rise (x ∷ xs) → is_at object value x ≡ true → All (IsAway object value) xs
later_are_away x xs object value rise at = λ k d l.
    let same = same_place x.object object x.value value at in
    let z = get_or xs k d in
    (λ i. is_at (sym same.0 i) (sym same.1 i) z)
    ∙ ap is_eq (places_total.antisymm (z.object, z.value) (x.object, x.value) ∙ ap ordering_reverse (rise 0 (suc k) d (omega arith) (omega (arith, l))))

-- without the items that aren't filled, each cell stays
pub cell_of_filled : (items : List Item) → Rise items → (object : ObjectId) (value : Option (List ℕ)) → cell_in (filled_of items) object value ≡ cell_in items object value
cell_of_filled [] rise object value = refl
cell_of_filled (x ∷ xs) rise object value =
    let rest : cell_in (filled_of xs) object value ≡ cell_in xs object value = cell_of_filled xs (AllPairs-tail (λ (a b : Item). item_cmp a.object a.value b.object b.value ≡ Less) x xs rise) object value in
    elim (cases_Bool (is_filled x.cell)) [
      | inl filled ↦
          ap (λ items. cell_in items object value) (cond-true (is_filled x.cell) (x ∷ filled_of xs) (filled_of xs) filled)
          ∙ ap (λ cell. if is_at object value x then x.cell else cell) rest
      | inr empty ↦
          ap (λ items. cell_in items object value) (cond-false (is_filled x.cell) (x ∷ filled_of xs) (filled_of xs) empty) ∙ rest
          ∙ elim (cases_Bool (is_at object value x)) [
            | inl at ↦ cell-none object value xs (later_are_away x xs object value rise at) ∙ sym (unfilled_is_zero x.cell empty) ∙ sym (cond-true (is_at object value x) x.cell (cell_in xs object value) at)
            | inr away ↦ sym (cond-false (is_at object value x) x.cell (cell_in xs object value) away)
          ]
    ]

-- the filled ones of items that rise do so too
pub rise_of_filled : (items : List Item) → Rise items → Rise (filled_of items)
rise_of_filled items rise = AllPairs-filter (λ (a b : Item). item_cmp a.object a.value b.object b.value ≡ Less) (λ item. is_filled item.cell) items rise

-- each of the filled items has a mark or a sum
pub filled_are_filled : (items : List Item) → AreFilled (filled_of items)
filled_are_filled items = filter_passes (λ item. is_filled item.cell) items

-- ---- how many items aren't filled

abbrev is_empty : Item → Bool
is_empty item = not (is_filled item.cell)

-- each item is filled or not
pub filled_and_empties : (items : List Item) → length (filled_of items) + empties items ≡ length items
filled_and_empties items = length-filter_both (λ item. is_filled item.cell) is_empty (λ _. refl) items

abbrev one_if_empty : Item → ℕ
one_if_empty item = cond (is_empty item) 1 0

none_or_one : (filled : Bool) → ◌≡◌ {A = ℕ} (cond (not filled) 1 0) (if filled then 0 else 1)
none_or_one true = refl
none_or_one false = refl

empties-append : (xs ys : List Item) → empties (xs ++ ys) ≡ empties xs + empties ys
empties-append xs ys = ap length (filter-append is_empty xs ys) ∙ length-append (filter is_empty xs) (filter is_empty ys)

-- a filled item that is put in adds none
pub empties-put : (place : ℕ) (item : Item) (items : List Item) → is_filled item.cell ≡ true → empties (put_at place item items) ≡ empties items
empties-put place item items filled =
    let none : one_if_empty item ≡ 0 = ap (λ b. cond (not b) 1 0) filled in
    omega (arith, length-filter is_empty (put_at place item items), length-filter is_empty items, sum_by-insert one_if_empty items place item, none)

-- where an item gets another cell, the old cell no longer counts, and the new one does
pub empties-with_cell : (place : ℕ) (cell : Cell) (items : List Item) (d : Item) → place < length items
    → empties (with_cell place cell items) + (if is_filled (get_or items place d).cell then 0 else 1) ≡ empties items + (if is_filled cell then 0 else 1)
empties-with_cell place cell items d within =
    let old = get_or items place d in
    let new = record old { cell = cell } in
    omega (
      arith,
      ap empties (with_cell_set place cell items d),
      length-filter is_empty (set items place new),
      length-filter is_empty items,
      sum_by-set one_if_empty items place new d within,
      none_or_one (is_filled old.cell),
      none_or_one (is_filled cell),
    )

-- those of a span and those of the rest are those of all
pub empties-without : (from to : ℕ) (items : List Item) → from ≤ to → to ≤ length items → empties (without_span from to items) + empties (between from to items) ≡ empties items
empties-without from to items le within =
    let front = take from items in
    let mid = between from to items in
    let back = drop to items in
    omega (arith, ap empties (split_between items from to le), empties-append front (mid ++ back), empties-append mid back, empties-append front back)

-- a span that is one item longer has one more if that item isn't filled
pub empties-more : (items : List Item) (from k : ℕ) (d : Item) → from ≤ k → k < length items
    → empties (between from (k + 1) items) ≡ empties (between from k items) + (if is_filled (get_or items k d).cell then 0 else 1)
empties-more items from k d le within =
    let item = get_or items k d in
    omega (arith, ap empties (between_more items from k d le within), empties-append (between from k items) (item ∷ []), length-filter is_empty (item ∷ []), none_or_one (is_filled item.cell))

-- an item in a slot of the order
module _ (slots : Slab Item) (order : List ℕ) (slot : ℕ) (has : Contains order slot) (item : Item) (there : get slots slot ≡ Some item) where
  with_another : (cell : Cell) → empties (with_cell has.0 cell (items_in slots order)) + (if is_filled item.cell then 0 else 1) ≡ empties (items_in slots order) + (if is_filled cell then 0 else 1)
  with_another cell =
      let stands : get_or (items_in slots order) has.0 no_item ≡ item = item_at_place slots order has.0 slot no_item has.1 ∙ ap (item_in slots) has.2 ∙ item_is slots slot item there in
      ap (λ (x : Item). empties (with_cell has.0 cell (items_in slots order)) + (if is_filled x.cell then 0 else 1)) (sym stands)
      ∙ empties-with_cell has.0 cell (items_in slots order) no_item (omega (arith, has.1, length-map order (item_in slots)))

  -- where it isn't filled, some item isn't
  pub some_is_empty : is_filled item.cell ≡ false → 1 ≤ empties (items_in slots order)
  some_is_empty f =
      let one : ◌≡◌ {A = ℕ} (if is_filled item.cell then 0 else 1) 1 = cond-false (is_filled item.cell) 0 1 f in
      omega (arith, with_another (record zero_cell { on = true }), one)

  -- where it is, not all are empty
  pub some_is_filled : is_filled item.cell ≡ true → empties (items_in slots order) + 1 ≤ length order
  some_is_filled t =
      let none : ◌≡◌ {A = ℕ} (if is_filled item.cell then 0 else 1) 0 = cond-true (is_filled item.cell) 0 1 t in
      let items = items_in slots order in
      let long : length (with_cell has.0 zero_cell items) ≡ length items = ap length (with_cell_set has.0 zero_cell items no_item) ∙ length-set items has.0 (record (get_or items has.0 no_item) { cell = zero_cell }) in
      omega (arith, with_another zero_cell, none, filled_and_empties (with_cell has.0 zero_cell items), long, length-map order (item_in slots))
