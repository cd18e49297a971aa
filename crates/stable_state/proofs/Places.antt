-- Where a test parts rising items.
use Rattle.std.proofs.Common.{◌≡◌, ℕ, ◌+◌, ◌-◌, ◌<◌, ◌≤◌, Bool, true, false, not, All, AllPairs, List, ◌∷◌, length, take, drop, get_or, refl, sym, ap, subst, ◌∙◌, inl, inr, length-drop, length-take-le, arith}
use Rattle.std.specs.Prelude.{Option, Some, None}
use Rattle.std.specs.Cmp.{IsTotalOrder}
use Rattle.std.specs.List.{insert, HoldsAt}
use Rattle.std.specs.List.Sorted.{IsPartitionedBy, IsPartitionPoint}
use Rattle.std.specs.Option.{option_cmp}
use Rattle.std.specs.Ordering.{is_lt, is_gt, is_eq, ordering_then, ordering_reverse}
use Rattle.std.specs.declared.cmp.Ordering.{Ordering}
use Rattle.std.specs.declared.cmp.Ordering.TheVariants.{Less, Equal, Greater}
use Rattle.std.proofs.lemmas.Bool.{both_ways, cases_eq, cases_lt, not-true, not-false}
use Rattle.std.proofs.lemmas.Cmp.{upto, on_total, then_total, nat_cmp_total, nat_list_cmp_total}
use Rattle.std.proofs.lemmas.List.{length-map, get_or_default, get_or-take, get_or-drop}
use Rattle.std.proofs.lemmas.List.Elements.{All-cons}
use Rattle.std.proofs.lemmas.List.Kept.{AllPairs-cons}
use Rattle.op_base.specs.Object.{kind_place}
use Rattle.op_base.specs.Order.{text_cmp, object_cmp, item_cmp}
use Rattle.op_base.specs.declared.name.ObjectId.{ObjectId}
use Rattle.op_base.specs.declared.outcome.Item.{Item}
use Rattle.op_base.proofs.Orders.{items_tied}
use Rattle.causal_model.specs.Items.{is_at, Rise}
use Rattle.causal_model.proofs.Theory.Elements.{AllPairs-append}
use Rattle.causal_model.proofs.Cells.Places.{places_total}
use Rattle.slab.specs.Slab.{Slab, get, ContainsKey}
use Rattle.stable_state.specs.Places.{is_before, is_up_to, IsParted, RisesWithOneAt, IsGapFor, IsSpan}
use Rattle.stable_state.specs.Slots.{no_item, item_in, items_in}
use Rattle.stable_state.proofs.Parting.{point_at}
use Rattle.stable_state.proofs.Slots.{held_item, item_at_place}

abbrev pub IsLess : Item → Item → Type 0
IsLess a b = item_cmp a.object a.value b.object b.value ≡ Less

is_less : (o : Ordering) → is_lt o ≡ true → o ≡ Less
is_less Less t = refl
is_less Equal t = cc
is_less Greater t = cc

is_greater : (o : Ordering) → is_gt o ≡ true → o ≡ Greater
is_greater Less t = cc
is_greater Equal t = cc
is_greater Greater t = refl

not_less : (o : Ordering) → is_lt o ≡ false → is_eq o ≡ false → o ≡ Greater
not_less Less f g = cc
not_less Equal f g = cc
not_less Greater f g = refl

in_between : (o : Ordering) → is_gt o ≡ false → (o ≡ Less → ⊥) → o ≡ Equal
in_between Less f g = absurd (g refl)
in_between Equal f g = refl
in_between Greater f g = cc

-- ---- each object's items stand together

objects_total : IsTotalOrder object_cmp
objects_total = then_total (on_total (λ object. kind_place object.kind) nat_cmp_total) (on_total (λ object. object.key) nat_list_cmp_total)

first_not_greater : (a b : Ordering) → ordering_then a b ≡ Less → is_gt a ≡ false
first_not_greater Less b t = refl
first_not_greater Equal b t = refl
first_not_greater Greater b t = cc

-- an item that isn't before an object with no value isn't of an object before it, and the other way round
before_none : (a : Ordering) (value : Option (List ℕ)) → is_lt (ordering_then a (option_cmp text_cmp value None)) ≡ is_lt a
before_none Less value = refl
before_none Equal None = refl
before_none Equal (Some bytes) = refl
before_none Greater value = refl

-- ---- tests part rising items

module _ (items : List Item) (rise : Rise items) where
  pub before_parts : (object : ObjectId) (value : Option (List ℕ)) → IsPartitionedBy (is_before object value) items
  before_parts object value i j d le within t = elim (cases_eq i j) [
    | inl same ↦ subst (λ k. is_before object value (get_or items k d) ≡ true) (sym same) t
    | inr other ↦
        let x = get_or items i d in
        let y = get_or items j d in
        let less : i < j = omega (arith, le, other) in
        ap is_lt (places_total.trans (x.object, x.value) (y.object, y.value) (object, value) (rise i j d less within) (is_less (item_cmp y.object y.value object value) t))
  ]

  pub up_to_parts : (object : ObjectId) → IsPartitionedBy (is_up_to object) items
  up_to_parts object i j d le within t = elim (cases_eq i j) [
    | inl same ↦ subst (λ k. is_up_to object (get_or items k d) ≡ true) (sym same) t
    | inr other ↦
        let x = get_or items i d in
        let y = get_or items j d in
        let less : i < j = omega (arith, le, other) in
        ap not (upto objects_total x.object y.object object (first_not_greater (object_cmp x.object y.object) (option_cmp text_cmp x.value y.value) (rise i j d less within)) (not-true (is_gt (object_cmp y.object object)) t))
  ]

pub parted_there : (items : List Item) (place : ℕ) → Rise items → place ≤ length items → (object : ObjectId) (value : Option (List ℕ))
    → (0 < place → HoldsAt (λ item. is_before object value item ≡ true) items (place - 1))
    → (place < length items → HoldsAt (λ item. is_before object value item ≡ false) items place) → IsParted (is_before object value) items place
parted_there items place rise within object value = point_at (is_before object value) items place (before_parts items rise object value) within

pub up_to_there : (items : List Item) (place : ℕ) → Rise items → place ≤ length items → (object : ObjectId)
    → (0 < place → HoldsAt (λ item. is_up_to object item ≡ true) items (place - 1))
    → (place < length items → HoldsAt (λ item. is_up_to object item ≡ false) items place) → IsParted (is_up_to object) items place
up_to_there items place rise within object = point_at (is_up_to object) items place (up_to_parts items rise object) within

-- what is before an object is up to it
pub before_is_up_to : (object : ObjectId) (item : Item) → is_before object None item ≡ true → is_up_to object item ≡ true
before_is_up_to object item t =
    let cmp = object_cmp item.object object in
    ap (λ o. not (is_gt o)) (is_less cmp (sym (before_none cmp item.value) ∙ t))

-- ---- the same in slots

-- a test of the item in a slot, which fails where there is none
abbrev pub passes : (Item → Bool) → Option Item → Bool
passes p None = false
passes p (Some item) = p item

module _ (p : Item → Bool) (slots : Slab Item) (order : List ℕ) (held : All (ContainsKey slots) order) where
  abbrev pub slot_passes : ℕ → Bool
  slot_passes slot = passes p (get slots slot)

  test_at : (k d : ℕ) (e : Item) → k < length order → slot_passes (get_or order k d) ≡ p (get_or (items_in slots order) k e)
  test_at k d e l = ap (passes p) (held_item slots (get_or order k d) (held k d l)) ∙ ap p (sym (item_at_place slots order k d e l))

  pub slots_parted : IsPartitionedBy p (items_in slots order) → IsPartitionedBy slot_passes order
  slots_parted parted i j d le within t =
      let first : i < length order = omega (arith, le, within) in
      let second : j < length (items_in slots order) = omega (arith, within, length-map order (item_in slots)) in
      test_at i d no_item first ∙ parted i j no_item le second (sym (test_at j d no_item within) ∙ t)

  pub items_parted : (r : ℕ) → r ≤ length order → IsPartitionPoint (λ slot. slot_passes slot ≡ true) (λ slot. slot_passes slot ≡ false) order r
      → IsParted p (items_in slots order) r
  items_parted r le point = (
    λ k d from less. sym (test_at k 0 d (omega (arith, le, less))) ∙ point.0 k 0 from less,
    λ k d from less.
        let within : k < length order = omega (arith, less, length-map order (item_in slots)) in
        sym (test_at k 0 d within) ∙ point.1 k 0 from within,
  )

-- the point where a test parts the items of slots, at other names of them
pub point_moves : (p : Item → Bool) (slots : Slab Item) (order : List ℕ) (items : List Item) (r : ℕ) → items_in slots order ≡ items → r ≤ length order
    → IsParted p (items_in slots order) r → (r ≤ length items) × IsParted p items r
point_moves p slots order items r is le point =
    (omega (arith, le, ap length is, length-map order (item_in slots)), subst (λ xs. IsParted p xs r) is point)

-- ---- a gap, and a span

module _ (object : ObjectId) (items : List Item) (rise : Rise items) where
  pub gap_is : (value : Option (List ℕ)) (place : ℕ) → place ≤ length items → IsParted (is_before object value) items place
      → ((d : Item) → place < length items → is_at object value (get_or items place d) ≡ false) → IsGapFor object value items place
  gap_is value place le point none = record {
    within = le;
    before = λ k d from less. is_less (item_cmp (get_or items k d).object (get_or items k d).value object value) (point.0 k d from less);
    after = λ k d from less.
        let x = get_or items place d in
        let y = get_or items k d in
        let here : place < length items → item_cmp x.object x.value object value ≡ Greater = λ within. not_less (item_cmp x.object x.value object value) (point.1 place d (omega arith) within) (none d within) in
        elim (cases_eq place k) [
          | inl same ↦ subst (λ j. item_cmp (get_or items j d).object (get_or items j d).value object value ≡ Greater) same (here (omega (arith, from, less)))
          | inr other ↦
              let back : item_cmp object value x.object x.value ≡ Less = places_total.antisymm (object, value) (x.object, x.value) ∙ ap ordering_reverse (here (omega (arith, from, less))) in
              let later : item_cmp object value y.object y.value ≡ Less = places_total.trans (object, value) (x.object, x.value) (y.object, y.value) back (rise place k d (omega (arith, from, other)) less) in
              places_total.antisymm (y.object, y.value) (object, value) ∙ ap ordering_reverse later
        ];
  }

  pub span_is : (from to : ℕ) → from ≤ length items → to ≤ length items
      → IsParted (is_before object None) items from
      → IsParted (is_up_to object) items to → IsSpan object items from to
  span_is from to from_le to_le first last =
      let cmp : ℕ → Item → Ordering = λ k d. object_cmp (get_or items k d).object object in
      let less : (k : ℕ) (d : Item) → k < from → cmp k d ≡ Less = λ k d l. is_less (cmp k d) (sym (before_none (cmp k d) (get_or items k d).value) ∙ first.0 k d (omega arith) l) in
      let not_less : (k : ℕ) (d : Item) → from ≤ k → k < length items → is_lt (cmp k d) ≡ false = λ k d l within. sym (before_none (cmp k d) (get_or items k d).value) ∙ first.1 k d l within in
      record {
        ordered = elim (cases_lt to from) [
          | inl crossed ↦
              let up : is_up_to object (get_or items to no_item) ≡ true = ap (λ o. not (is_gt o)) (less to no_item crossed) in
              absurd (both_ways (is_up_to object (get_or items to no_item)) (last.1 to no_item (omega arith) (omega (arith, crossed, from_le))) up)
          | inr le ↦ le
        ];
        within = to_le;
        before = λ k d _ l. less k d l;
        inside = λ k d l u.
            let equal : cmp k d ≡ Equal = in_between (cmp k d) (not-true (is_gt (cmp k d)) (last.0 k d (omega arith) u)) (λ e. both_ways (is_lt (cmp k d)) (not_less k d l (omega (arith, u, to_le))) (ap is_lt e)) in
            (items_tied (get_or items k d).object object None None (ap (λ o. ordering_then o Equal) equal)).0;
        after = λ k d l u. is_greater (cmp k d) (not-false (is_gt (cmp k d)) (last.1 k d l u));
      }

-- ---- an item put at its place

pub AllPairs-take : {X : Type 0} (R : X → X → Type 0) (n : ℕ) (xs : List X) → n ≤ length xs → AllPairs R xs → AllPairs R (take n xs)
AllPairs-take R n xs le pairs i j d less within =
    let below : j < n = omega (arith, within, length-take-le n xs le) in
    subst (λ y. R y (get_or (take n xs) j d)) (sym (get_or-take n xs i d (omega (arith, less, below)))) (subst (λ y. R (get_or xs i d) y) (sym (get_or-take n xs j d below)) (pairs i j d less (omega (arith, below, le))))

pub AllPairs-drop : {X : Type 0} (R : X → X → Type 0) (n : ℕ) (xs : List X) → AllPairs R xs → AllPairs R (drop n xs)
AllPairs-drop R n xs pairs i j d less within =
    let both = pairs (n + i) (n + j) d (omega (arith, less)) (omega (arith, within, length-drop n xs)) in
    subst (λ y. R y (get_or (drop n xs) j d)) (sym (get_or-drop n xs i d)) (subst (λ y. R (get_or xs (n + i) d) y) (sym (get_or-drop n xs j d)) both)

AllPairs-insert : {X : Type 0} (R : X → X → Type 0) (n : ℕ) (xs : List X) (x : X) → n ≤ length xs → AllPairs R xs → All (λ a. R a x) (take n xs) → All (R x) (drop n xs) → AllPairs R (insert xs n x)
AllPairs-insert R n xs x le pairs before after =
    AllPairs-append R (take n xs) (x ∷ drop n xs) (AllPairs-take R n xs le pairs) (AllPairs-cons R x (drop n xs) after (AllPairs-drop R n xs pairs)) (λ k d l.
    let below : k < n = omega (arith, l, length-take-le n xs le) in
    All-cons (R (get_or (take n xs) k d)) x (drop n xs) (before k d l) (λ j e m.
    let within : n + j < length xs = omega (arith, m, length-drop n xs) in
    let pair = pairs k (n + j) e (omega (arith, below)) within in
    subst (λ y. R y (get_or (drop n xs) j e)) (sym (get_or-take n xs k d below ∙ get_or_default xs k d e (omega (arith, below, le)))) (subst (λ y. R (get_or xs k e) y) (sym (get_or-drop n xs j e)) pair)))

pub gap_rises : (object : ObjectId) (value : Option (List ℕ)) (items : List Item) (place : ℕ) → Rise items → IsGapFor object value items place → RisesWithOneAt object value items place
gap_rises object value items place rise gap item of_object of_value =
    AllPairs-insert IsLess place items item gap.within rise (λ k d l.
    let below : k < place = omega (arith, l, length-take-le place items gap.within) in
    let x = get_or items k d in
    subst (λ y. IsLess y item) (sym (get_or-take place items k d below)) ((λ i. item_cmp x.object x.value (of_object i) (of_value i)) ∙ gap.before k d (omega arith) below)) (λ k d l.
    let x = get_or items (place + k) d in
    let greater : item_cmp x.object x.value object value ≡ Greater = gap.after (place + k) d (omega arith) (omega (arith, l, length-drop place items)) in
    subst (λ y. IsLess item y) (sym (get_or-drop place items k d)) ((λ i. item_cmp (of_object i) (of_value i) x.object x.value) ∙ places_total.antisymm (object, value) (x.object, x.value) ∙ ap ordering_reverse greater))
