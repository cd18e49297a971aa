-- Items that stand side by side: what taking them out, or putting others there, does to each cell.
use Rattle.std.proofs.Common.{◌≡◌, ℕ, ◌+◌, ◌<◌, ◌≤◌, All, Bool, true, false, not, List, [], ◌++◌, append-nil, length, take, drop, get_or, refl, sym, ap, subst, ◌∙◌, inl, inr, Option, None, arith, if◌then◌else◌}
use Rattle.std.specs.List.{filter, AllWithin, HoldsAt, between}
use Rattle.std.specs.Ordering.{ordering_reverse, ordering_then, is_eq}
use Rattle.std.specs.declared.cmp.Ordering.{Ordering}
use Rattle.std.specs.declared.cmp.Ordering.TheVariants.{Less, Equal, Greater}
use Rattle.std.proofs.lemmas.Bool.{and_parts, both_ways, cases_Bool, cases_order, cond-true, cond-false, false_from_ne_true, not_from_true, not_from_false}
use Rattle.std.proofs.lemmas.List.{length-take, length-drop, get_or-take, get_or-drop, get_or_default, take-append-drop}
use Rattle.std.proofs.lemmas.List.Edits.{length-between, get_or-between, split_between}
use Rattle.std.proofs.lemmas.List.Elements.{All-append, All-nil, All-weaker, filter-append}
use Rattle.std.proofs.lemmas.List.Kept.{AllPairs-filter}
use Rattle.op_base.specs.Object.{same_object}
use Rattle.op_base.specs.Order.{item_cmp, object_cmp}
use Rattle.op_base.specs.declared.name.ObjectId.{ObjectId}
use Rattle.op_base.specs.declared.outcome.Item.{Item}
use Rattle.causal_model.specs.Items.{zero_cell, is_at, cell_in, Rise}
use Rattle.causal_model.proofs.Cells.ItemMaps.{filter_all_of}
use Rattle.causal_model.proofs.Cells.KindCells.{place_parts}
use Rattle.causal_model.proofs.Theory.Lists.{filter_none}
use Rattle.causal_model.proofs.Cells.Places.{places_total}
use Rattle.causal_model.proofs.Answers.Rules.{object_from_same}
use Rattle.stable_state.specs.Picked.{ArePicked, is_place}
use Rattle.stable_state.specs.Places.{IsGapFor, IsSpan}
use Rattle.stable_state.specs.Shelf.{without_span}
use Rattle.stable_state.specs.Slots.{no_item}
use Rattle.stable_state.proofs.Cells.{IsAway, place_itself, same_place, cell-around, cell-none, cell-within}

-- ---- parts of a list

module _ {X : Type 0} (P : X → Type 0) (xs : List X) where
  All-front : (n : ℕ) → AllWithin P xs 0 n → All P (take n xs)
  All-front n each = λ k d l.
      let lt : k < n = omega (arith, length-take n xs) in
      subst P (sym (get_or-take n xs k d lt)) (each k d (omega arith) lt)

  All-back : (n : ℕ) → AllWithin P xs n (length xs) → All P (drop n xs)
  All-back n each = λ k d l.
      let lt : n + k < length xs = omega (arith, length-drop n xs) in
      subst P (sym (get_or-drop n xs k d)) (each (n + k) d (omega arith) lt)

  pub All-between : (i j : ℕ) → j ≤ length xs → AllWithin P xs i j → All P (between i j xs)
  All-between i j within each = λ k d l.
      let lt : i + k < j = omega (arith, length-between xs i j within) in
      subst P (sym (get_or-between xs i j k d lt)) (each (i + k) d (omega arith) lt)

-- ---- items that pass

module _ (passes : ObjectId → Option (List ℕ) → Bool) where
  abbrev Passes : Item → Type 0
  Passes item = passes item.object item.value ≡ true

  abbrev Fails : Item → Type 0
  Fails item = passes item.object item.value ≡ false

  -- an item at an object and a value passes as they do
  passes_at : (object : ObjectId) (value : Option (List ℕ)) (item : Item) → is_at object value item ≡ true → passes item.object item.value ≡ passes object value
  passes_at object value item t = let same = same_place item.object object item.value value t in λ i. passes (same.0 i) (same.1 i)

  away_from_fails : (object : ObjectId) (value : Option (List ℕ)) → passes object value ≡ true → (item : Item) → Fails item → IsAway object value item
  away_from_fails object value t item fails = false_from_ne_true (is_at object value item) (λ at. both_ways (passes object value) (sym (passes_at object value item at) ∙ fails) t)

  away_from_passes : (object : ObjectId) (value : Option (List ℕ)) → passes object value ≡ false → (item : Item) → Passes item → IsAway object value item
  away_from_passes object value f item pass = false_from_ne_true (is_at object value item) (λ at. both_ways (passes object value) f (sym (passes_at object value item at) ∙ pass))

  module _ (items : List Item) (from to : ℕ) (picked : ArePicked passes items from to) where
    front : All Fails (take from items)
    front = All-front Fails items from picked.before

    middle : All Passes (between from to items)
    middle = All-between Passes items from to picked.within picked.inside

    back : All Fails (drop to items)
    back = All-back Fails items to picked.after

    -- where others that pass stand in their place, cells that pass are those of the others, and the rest stays
    pub cell_swapped : (others : List Item) → All Passes others → (object : ObjectId) (value : Option (List ℕ))
        → cell_in (take from items ++ (others ++ drop to items)) object value ≡ (if passes object value then cell_in others object value else cell_in items object value)
    cell_swapped others pass object value =
        let Away : Item → Type 0 = IsAway object value in
        elim (cases_Bool (passes object value)) [
          | inl t ↦
              let away = away_from_fails object value t in
              cell-within object value (take from items) others (drop to items) (All-weaker Fails Away away (take from items) front) (All-weaker Fails Away away (drop to items) back)
              ∙ sym (cond-true (passes object value) (cell_in others object value) (cell_in items object value) t)
          | inr f ↦
              let away = away_from_passes object value f in
              cell-around object value (take from items) others (drop to items) (All-weaker Passes Away away others pass)
              ∙ sym (cell-around object value (take from items) (between from to items) (drop to items) (All-weaker Passes Away away (between from to items) middle))
              ∙ ap (λ xs. cell_in xs object value) (sym (split_between items from to picked.ordered))
              ∙ sym (cond-false (passes object value) (cell_in others object value) (cell_in items object value) f)
        ]

    pub cell_without : (object : ObjectId) (value : Option (List ℕ)) → cell_in (without_span from to items) object value ≡ (if passes object value then zero_cell else cell_in items object value)
    cell_without object value = cell_swapped [] (All-nil Passes) object value

    pub between_is_filter : between from to items ≡ filter (λ item. passes item.object item.value) items
    between_is_filter =
        let p : Item → Bool = λ item. passes item.object item.value in
        sym (ap (filter p) (split_between items from to picked.ordered)
        ∙ filter-append p (take from items) (between from to items ++ drop to items)
        ∙ ap (λ xs. xs ++ filter p (between from to items ++ drop to items)) (filter_none p (take from items) front)
        ∙ filter-append p (between from to items) (drop to items)
        ∙ (λ i. filter_all_of p (between from to items) middle i ++ filter_none p (drop to items) back i)
        ∙ append-nil (between from to items))

    without_is_filter : without_span from to items ≡ filter (λ item. not (passes item.object item.value)) items
    without_is_filter =
        let p : Item → Bool = λ item. not (passes item.object item.value) in
        let keeps = λ (item : Item) (f : Fails item). not_from_false (passes item.object item.value) f in
        let drops = λ (item : Item) (t : Passes item). not_from_true (passes item.object item.value) t in
        sym (ap (filter p) (split_between items from to picked.ordered)
        ∙ filter-append p (take from items) (between from to items ++ drop to items)
        ∙ (λ i. filter_all_of p (take from items) (All-weaker Fails (λ item. p item ≡ true) keeps (take from items) front) i ++ filter-append p (between from to items) (drop to items) i)
        ∙ (λ i. take from items ++ (filter_none p (between from to items) (All-weaker Passes (λ item. p item ≡ false) drops (between from to items) middle) i ++ filter_all_of p (drop to items) (All-weaker Fails (λ item. p item ≡ true) keeps (drop to items) back) i)))

    pub rise_without : Rise items → Rise (without_span from to items)
    rise_without rise = subst Rise (sym without_is_filter) (AllPairs-filter (λ (a b : Item). item_cmp a.object a.value b.object b.value ≡ Less) (λ item. not (passes item.object item.value)) items rise)

-- ---- one item

-- an item before another is not at its place, nor one behind it
away_before : (x y : Item) → item_cmp x.object x.value y.object y.value ≡ Less → is_place y.object y.value x.object x.value ≡ false
away_before x y less = ap is_eq (places_total.antisymm (y.object, y.value) (x.object, x.value) ∙ ap ordering_reverse less)

-- the item at a place is the only one of its object and value
pub one_is_picked : (items : List Item) (place : ℕ) (item : Item) → Rise items → place < length items → get_or items place item ≡ item → ArePicked (is_place item.object item.value) items place (place + 1)
one_is_picked items place item rise within at =
    let there : (d : Item) → get_or items place d ≡ item = λ d. get_or_default items place d item within ∙ at in
    record {
      ordered = omega arith;
      within = omega arith;
      before = λ k d _ l. away_before (get_or items k d) item (subst (λ (z : Item). item_cmp (get_or items k d).object (get_or items k d).value z.object z.value ≡ Less) (there d) (rise k place d l within));
      inside = λ k d l h.
          let same : place ≡ k = omega arith in
          subst (λ (z : Item). is_place item.object item.value z.object z.value ≡ true) (sym (there d) ∙ ap (λ j. get_or items j d) same) (place_itself item.object item.value);
      after = λ k d l h. ap is_eq (subst (λ (z : Item). item_cmp z.object z.value (get_or items k d).object (get_or items k d).value ≡ Less) (there d) (rise place k d (omega (arith, l)) h));
    }

pub found_is_picked : (object : ObjectId) (value : Option (List ℕ)) (items : List Item) (place : ℕ) → Rise items → place < length items → HoldsAt (λ item. is_at object value item ≡ true) items place
    → ArePicked (is_place object value) items place (place + 1)
found_is_picked object value items place rise within found =
    let item = get_or items place no_item in
    let same = same_place item.object object item.value value (found no_item) in
    let P : ObjectId → Option (List ℕ) → Type 0 = λ o v. ArePicked (is_place o v) items place (place + 1) in
    subst (λ v. P object v) same.1 (subst (λ (o : ObjectId). P o item.value) same.0 (one_is_picked items place item rise within (get_or_default items place item no_item within)))

-- a gap has no item of its object and value
pub none_is_picked : (object : ObjectId) (value : Option (List ℕ)) (items : List Item) (place : ℕ) → IsGapFor object value items place → ArePicked (is_place object value) items place place
none_is_picked object value items place gap = record {
  ordered = omega arith;
  within = gap.within;
  before = λ k d l h. ap is_eq (turned (get_or items k d) ∙ ap ordering_reverse (gap.before k d l h));
  inside = λ k d l h. absurd (omega (arith, l, h));
  after = λ k d l h. ap is_eq (turned (get_or items k d) ∙ ap ordering_reverse (gap.after k d l h));
} where
  turned : (x : Item) → item_cmp object value x.object x.value ≡ ordering_reverse (item_cmp x.object x.value object value)
  turned x = places_total.antisymm (object, value) (x.object, x.value)

-- where none is, the cell has no mark and no sum
pub cell_of_gap : (object : ObjectId) (value : Option (List ℕ)) (items : List Item) (place : ℕ) → IsGapFor object value items place → cell_in items object value ≡ zero_cell
cell_of_gap object value items place gap =
    ap (λ xs. cell_in xs object value) (sym (take-append-drop place items))
    ∙ cell_without (is_place object value) items place place (none_is_picked object value items place gap) object value
    ∙ cond-true (is_place object value object value) zero_cell (cell_in items object value) (place_itself object value)

-- no two places of rising items are of one object and value
never_less : (object : ObjectId) (value : Option (List ℕ)) (a b : Item) → is_at object value a ≡ true → is_at object value b ≡ true → item_cmp a.object a.value b.object b.value ≡ Less → ⊥
never_less object value a b first second less =
    let one = same_place a.object object a.value value first in
    let other = same_place b.object object b.value value second in
    both_ways (is_place object value object value) (ap is_eq (sym (λ i. item_cmp (one.0 i) (one.1 i) (other.0 i) (other.1 i)) ∙ less)) (place_itself object value)

pub only_place : (object : ObjectId) (value : Option (List ℕ)) (items : List Item) → Rise items → (i j : ℕ) (d : Item) → i < length items → j < length items
    → is_at object value (get_or items i d) ≡ true → is_at object value (get_or items j d) ≡ true → i ≡ j
only_place object value items rise i j d l m first second = elim (cases_order i j) [
  | inl e ↦ e
  | inr apart ↦ absurd (elim apart [
    | inl lt ↦ never_less object value (get_or items i d) (get_or items j d) first second (rise i j d lt m)
    | inr lt ↦ never_less object value (get_or items j d) (get_or items i d) second first (rise j i d lt l)
  ])
]

-- without a span that has the item of an object and a value, their cell has no mark and no sum
pub cell_of_span : (object : ObjectId) (value : Option (List ℕ)) (items : List Item) (from to : ℕ) → Rise items → to ≤ length items → (i : ℕ) (item : Item) → from ≤ i → i < to
    → get_or items i item ≡ item → is_at object value item ≡ true → cell_in (without_span from to items) object value ≡ zero_cell
cell_of_span object value items from to rise within i item low high here at =
    let Away : Item → Type 0 = IsAway object value in
    let away : (k : ℕ) (d : Item) → k < length items → ((k ≡ i) → ⊥) → Away (get_or items k d) = λ k d l apart. false_from_ne_true (is_at object value (get_or items k d)) (λ t.
    apart (only_place object value items rise k i d l (omega (arith, high)) t (subst (λ (x : Item). is_at object value x ≡ true) (sym (get_or_default items i d item (omega (arith, high)) ∙ here)) at))) in
    cell-none object value (without_span from to items) (All-append Away (take from items) (drop to items)
    (All-front Away items from (λ k d _ l. away k d (omega (arith, low, high)) (λ same. omega (arith, low))))
    (All-back Away items to (λ k d l m. away k d m (λ same. omega (arith, high)))))

-- ---- an object's items

same_object_itself : (object : ObjectId) → same_object object object ≡ true
same_object_itself object = (and_parts (same_object object object) true (sym (place_parts object object None None) ∙ place_itself object None)).0

-- an object that is before or behind another is another
other_object : (object other : ObjectId) (o : Ordering) → object_cmp other object ≡ o → is_eq (ordering_then o Equal) ≡ false → same_object object other ≡ false
other_object object other o is apart = false_from_ne_true (same_object object other) (λ t.
    let same = object_from_same object other t in
    both_ways (is_place object None object None) (ap (λ r. is_eq (ordering_then r Equal)) (ap (λ x. object_cmp x object) same ∙ is) ∙ apart) (place_itself object None))

pub span_is_picked : (object : ObjectId) (items : List Item) (from to : ℕ) → IsSpan object items from to → ArePicked (λ other value. same_object object other) items from to
span_is_picked object items from to span = record {
  ordered = span.ordered;
  within = span.within;
  before = λ k d l h. other_object object (get_or items k d).object Less (span.before k d l h) refl;
  inside = λ k d l h. ap (same_object object) (span.inside k d l h) ∙ same_object_itself object;
  after = λ k d l h. other_object object (get_or items k d).object Greater (span.after k d l h) refl;
}

-- the items have the object's cells
pub cell_of_object : (object : ObjectId) (items : List Item) (from to : ℕ) → ArePicked (λ other value. same_object object other) items from to → (value : Option (List ℕ))
    → cell_in (between from to items) object value ≡ cell_in items object value
cell_of_object object items from to picked value =
    let passes : ObjectId → Option (List ℕ) → Bool = λ other value. same_object object other in
    let away = away_from_fails passes object value (same_object_itself object) in
    let Away : Item → Type 0 = IsAway object value in
    sym (ap (λ xs. cell_in xs object value) (split_between items from to picked.ordered)
    ∙ cell-within object value (take from items) (between from to items) (drop to items)
    (All-weaker (Fails passes) Away away (take from items) (front passes items from to picked))
    (All-weaker (Fails passes) Away away (drop to items) (back passes items from to picked)))
