-- Slots in order while an item is put in, some are let go, or one gets another cell.
use Rattle.std.proofs.Common.{◌≡◌, ◌≢◌, ◌⊎◌, ℕ, zero, suc, ◌+◌, ◌<◌, ◌≤◌, All, Contains, List, [], ◌∷◌, ◌++◌, length, take, drop, get_or, set, cond, refl, sym, ap, subst, ◌∙◌, inl, inr, length-drop, length-append, length-take-le, drop-cons, arith}
use Rattle.std.specs.Prelude.{Option, Some, None, is_some, slice_range}
use Rattle.std.specs.List.{insert, remove_range}
use Rattle.std.proofs.lemmas.Bool.{both_ways, cases_eq, cases_lt}
use Rattle.std.proofs.lemmas.List.{length-map, get_or_default, get_or-take, get_or-drop, take-map, drop-map, map-append, set_split, length-set, take-append-drop, get_or-set_same, get_or-set_other, get_or_past}
use Rattle.std.proofs.lemmas.List.Edits.{length-insert, length-between, get_or-between}
use Rattle.std.proofs.lemmas.List.Elements.{All-append, All-cons, All-push, All-take, All-drop}
use Rattle.std.proofs.lemmas.List.Sums.{sum_by-set}
use Rattle.op_base.specs.Order.{item_cmp}
use Rattle.op_base.specs.declared.name.ObjectId.{ObjectId}
use Rattle.op_base.specs.declared.outcome.Cell.{Cell}
use Rattle.op_base.specs.declared.outcome.Item.{Item}
use Rattle.causal_model.specs.Items.{Rise}
use Rattle.causal_model.proofs.Theory.Elements.{AllPairs-append}
use Rattle.slab.specs.Slab.{Slab, get, ContainsKey, slab_len, with_value, Updates}
use Rattle.stable_state.specs.Places.{with_cell}
use Rattle.stable_state.specs.Slots.{no_item, item_in, items_in, IsOrdered, AreCopied}
use Rattle.stable_state.specs.Touched.{is_one_at}
use Rattle.stable_state.proofs.Places.{IsLess, AllPairs-take, AllPairs-drop}
use Rattle.stable_state.proofs.Slots.{IsKept, items_kept, held_kept, held_item, item_is, item_at_place, slots_apart, items_in-insert, items_in-remove_range}

-- more room changes nothing else
pub more_room : (old new : Slab Item) (order order' : List ℕ) → old.capacity ≤ new.capacity → new ≡ record old { capacity = new.capacity } → order' ≡ order → IsOrdered old order → IsOrdered new order'
more_room old new order order' more is order_is ordered =
    subst (λ slots. IsOrdered slots order') (sym is) (subst (IsOrdered (record old { capacity = new.capacity })) (sym order_is)
    (record { held = ordered.held; counted = ordered.counted; fits = omega (arith, ordered.fits, more); rise = ordered.rise }))

-- ---- items are copied into other slots

pub one_more_copied : (from into new : Slab Item) (order copied : List ℕ) (slot key : ℕ) (item : Item) → get from slot ≡ Some item → get into key ≡ None → Updates into new key (Some item) → slab_len new ≡ slab_len into + 1
    → AreCopied from order into copied → AreCopied from (order ++ slot ∷ []) new (copied ++ key ∷ [])
one_more_copied from into new order copied slot key item at vacant changes len are = record {
  items = map-append (item_in new) copied (key ∷ []) ∙ (λ i. (items_kept into new copied kept ∙ are.items) i ++ (item_is new key item changes.changed ∙ sym (item_is from slot item at)) i ∷ []) ∙ sym (map-append (item_in from) order (slot ∷ []));
  held = All-push (ContainsKey new) copied key (held_kept into new copied kept are.held) (ap is_some changes.changed);
  counted = omega (arith, len, are.counted, length-append copied (key ∷ []));
} where
  kept : All (IsKept into new) copied
  kept k d l = changes.others (get_or copied k d) (λ same. both_ways (is_some (get into (get_or copied k d))) (ap is_some (ap (get into) same ∙ vacant)) (are.held k d l))

-- ---- an item is put into a slot that had none

module _ (old new : Slab Item) (order : List ℕ) (place slot : ℕ) (item : Item) (ordered : IsOrdered old order) (within : place ≤ length order) (vacant : get old slot ≡ None) (changes : Updates old new slot (Some item)) where
  kept : All (IsKept old new) order
  kept k d l = changes.others (get_or order k d) (λ same. both_ways (is_some (get old (get_or order k d))) (ap is_some (ap (get old) same ∙ vacant)) (ordered.held k d l))

  pub items-insert : items_in new (insert order place slot) ≡ insert (items_in old order) place item
  items-insert = items_in-insert new order place slot ∙ (λ i. insert (items_kept old new order kept i) place (item_is new slot item changes.changed i))

  pub ordered-insert : slab_len new ≡ slab_len old + 1 → slab_len old + 1 ≤ new.capacity → Rise (insert (items_in old order) place item) → IsOrdered new (insert order place slot)
  ordered-insert len room rise =
      let held = held_kept old new order kept ordered.held in
      record {
        held = All-append (ContainsKey new) (take place order) (slot ∷ drop place order) (All-take (ContainsKey new) place order held) (All-cons (ContainsKey new) slot (drop place order) (ap is_some changes.changed) (All-drop (ContainsKey new) place order held));
        counted = omega (arith, len, ordered.counted, length-insert order place slot within);
        fits = omega (arith, len, room);
        rise = subst Rise (sym items-insert) rise;
      }

-- ---- some items are let go

module _ (old new : Slab Item) (order : List ℕ) (from to : ℕ) (ordered : IsOrdered old order) (le : from ≤ to) (within : to ≤ length order)
    (each : (slot : ℕ) → (get new slot ≡ get old slot) ⊎ (Contains (slice_range order from to) slot × (get new slot ≡ None))) where
  others : (slot : ℕ) → (Contains (slice_range order from to) slot → ⊥) → get new slot ≡ get old slot
  others slot apart = elim (each slot) [ inl same ↦ same | inr gone ↦ absurd (apart gone.0) ]

  -- a slot of the order that stands elsewhere than in the span isn't in it
  away : (k d : ℕ) → k < length order → ((k < from) ⊎ (to ≤ k)) → IsKept old new (get_or order k d)
  away k d l where_is = others (get_or order k d) (λ found.
      let slot = get_or order k d in
      let j = found.0 in
      let apart = slots_apart old order ordered.rise in
      let inside : from + j < to = omega (arith, found.1, length-between order from to within) in
      let at : get_or order (from + j) slot ≡ slot = sym (get_or-between order from to j slot inside) ∙ found.2 in
      let here : get_or order k slot ≡ slot = get_or_default order k slot d l in
      elim where_is [
        | inl before ↦ apart k (from + j) slot (omega (arith, before)) (omega (arith, inside, within)) (here ∙ sym at)
        | inr after ↦ apart (from + j) k slot (omega (arith, inside, after)) l (at ∙ sym here)
      ])

  others_kept : All (IsKept old new) (remove_range order from to)
  others_kept = All-append (IsKept old new) (take from order) (drop to order) (λ k d l.
      let below : k < from = omega (arith, l, length-take-le from order (omega (arith, le, within))) in
      subst (IsKept old new) (sym (get_or-take from order k d below)) (away k d (omega (arith, below, le, within)) (inl below))) (λ k d l.
      subst (IsKept old new) (sym (get_or-drop to order k d)) (away (to + k) d (omega (arith, l, length-drop to order)) (inr (omega arith))))

  pub items-remove : items_in new (remove_range order from to) ≡ remove_range (items_in old order) from to
  items-remove = items_kept old new (remove_range order from to) others_kept ∙ items_in-remove_range old order from to

  pub ordered-remove : slab_len new + length (slice_range order from to) ≡ slab_len old → new.capacity ≡ old.capacity → IsOrdered new (remove_range order from to)
  ordered-remove len capacity =
      let items = items_in old order in
      let long : length items ≡ length order = length-map order (item_in old) in
      record {
        held = held_kept old new (remove_range order from to) others_kept (All-append (ContainsKey old) (take from order) (drop to order) (All-take (ContainsKey old) from order ordered.held) (All-drop (ContainsKey old) to order ordered.held));
        counted = omega (arith, len, le, within, ordered.counted, length-between order from to within, length-append (take from order) (drop to order), length-take-le from order (omega (arith, le, within)), length-drop to order);
        fits = omega (arith, len, capacity, ordered.fits);
        rise = subst Rise (sym items-remove) (AllPairs-append IsLess (take from items) (drop to items) (AllPairs-take IsLess from items (omega (arith, le, within, long)) ordered.rise) (AllPairs-drop IsLess to items ordered.rise) (λ k d l j e m.
            let below : k < from = omega (arith, l, length-take-le from items (omega (arith, le, within, long))) in
            let past : to + j < length items = omega (arith, m, length-drop to items) in
            subst (λ y. IsLess y (get_or (drop to items) j e)) (sym (get_or-take from items k d below ∙ get_or_default items k d e (omega (arith, below, le, within, long))))
            (subst (IsLess (get_or items k e)) (sym (get_or-drop to items j e)) (ordered.rise k (to + j) e (omega (arith, below, le)) past))));
      }

-- ---- an item gets another cell

pub with_cell_set : (place : ℕ) (cell : Cell) (items : List Item) (d : Item) → with_cell place cell items ≡ set items place (record (get_or items place d) { cell = cell })
with_cell_set place cell [] d = refl
with_cell_set zero cell (item ∷ items) d = refl
with_cell_set (suc place) cell (item ∷ items) d = ap (λ xs. item ∷ xs) (with_cell_set place cell items d)

-- the items are of the same objects and values
with_cell_names : (place : ℕ) (cell : Cell) (items : List Item) (k : ℕ) (d : Item) → ((get_or (with_cell place cell items) k d).object ≡ (get_or items k d).object) × ((get_or (with_cell place cell items) k d).value ≡ (get_or items k d).value)
with_cell_names place cell [] k d = (refl, refl)
with_cell_names zero cell (item ∷ items) zero d = (refl, refl)
with_cell_names zero cell (item ∷ items) (suc k) d = (refl, refl)
with_cell_names (suc place) cell (item ∷ items) zero d = (refl, refl)
with_cell_names (suc place) cell (item ∷ items) (suc k) d = with_cell_names place cell items k d

pub rise-with_cell : (place : ℕ) (cell : Cell) (items : List Item) → Rise items → Rise (with_cell place cell items)
rise-with_cell place cell items rise i j d less within =
    let x = with_cell_names place cell items i d in
    let y = with_cell_names place cell items j d in
    let long : length (with_cell place cell items) ≡ length items = ap length (with_cell_set place cell items d) ∙ length-set items place (record (get_or items place d) { cell = cell }) in
    (λ t. item_cmp (x.0 t) (x.1 t) (y.0 t) (y.1 t)) ∙ rise i j d less (omega (arith, within, long))

module _ (old : Slab Item) (order : List ℕ) (place slot : ℕ) (cell : Cell) (ordered : IsOrdered old order) (within : place < length order) (at : get_or order place slot ≡ slot) where
  abbrev pub changed : Item
  changed = record (item_in old slot) { cell = cell }

  abbrev pub written : Slab Item
  written = with_value old slot changed

  here : ContainsKey old slot
  here = subst (ContainsKey old) at (ordered.held place slot within)

  bound : slot < length old.slots
  bound = elim (cases_lt slot (length old.slots)) [
    | inl less ↦ less
    | inr past ↦ absurd (both_ways (is_some (get old slot)) (ap is_some (get_or_past old.slots slot None past)) here)
  ]

  pub found : get written slot ≡ Some changed
  found = get_or-set_same old.slots slot (Some changed) None bound

  elsewhere : (other : ℕ) → other ≢ slot → IsKept old written other
  elsewhere other ne = get_or-set_other old.slots slot other (Some changed) None ne

  not_here : (k d : ℕ) → k < length order → k ≢ place → IsKept old written (get_or order k d)
  not_here k d l ne = elsewhere (get_or order k d) (λ same.
      let apart = slots_apart old order ordered.rise in
      let is : get_or order k slot ≡ slot = get_or_default order k slot d l ∙ same in
      elim (cases_lt k place) [
        | inl before ↦ apart k place slot before within (is ∙ sym at)
        | inr past ↦ apart place k slot (omega (arith, past, ne)) l (at ∙ sym is)
      ])

  first : All (IsKept old written) (take place order)
  first k d l =
      let below : k < place = omega (arith, l, length-take-le place order (omega (arith, within))) in
      subst (IsKept old written) (sym (get_or-take place order k d below)) (not_here k d (omega (arith, below, within)) (omega (arith, below)))

  last : All (IsKept old written) (drop (suc place) order)
  last k d l = subst (IsKept old written) (sym (get_or-drop (suc place) order k d)) (not_here (suc place + k) d (omega (arith, l, length-drop (suc place) order)) (omega arith))

  pub items-write : items_in written order ≡ with_cell place cell (items_in old order)
  items-write =
      let items = items_in old order in
      let rest = drop (suc place) order in
      let split : order ≡ take place order ++ slot ∷ rest = sym (take-append-drop place order) ∙ ap (λ xs. take place order ++ xs) (drop-cons order place slot within) ∙ ap (λ s. take place order ++ s ∷ rest) at in
      let was : get_or items place no_item ≡ item_in old slot = item_at_place old order place slot no_item within ∙ ap (item_in old) at in
      ap (items_in written) split ∙ map-append (item_in written) (take place order) (slot ∷ rest)
      ∙ (λ i. items_kept old written (take place order) first i ++ item_is written slot changed found i ∷ items_kept old written rest last i)
      ∙ (λ i. sym (take-map (item_in old) place order) i ++ changed ∷ sym (drop-map (item_in old) (suc place) order) i)
      ∙ sym (set_split items place changed (omega (arith, within, length-map order (item_in old))))
      ∙ ap (λ item. set items place (record item { cell = cell })) (sym was) ∙ sym (with_cell_set place cell items no_item)

  -- in each slot stands an item of the object and value of before
  pub one_at-write : (object : ObjectId) (value : Option (List ℕ)) (other : ℕ) → is_one_at object value (get written other) ≡ is_one_at object value (get old other)
  one_at-write object value other = elim (cases_eq other slot) [
    | inl same ↦
        ap (λ o. is_one_at object value (get written o)) same ∙ ap (is_one_at object value) found
        ∙ sym (ap (λ o. is_one_at object value (get old o)) same ∙ ap (is_one_at object value) (held_item old slot here))
    | inr ne ↦ ap (is_one_at object value) (elsewhere other ne)
  ]

  pub len-write : slab_len written ≡ slab_len old
  len-write =
      let one : Option Item → ℕ = λ o. cond (is_some o) 1 0 in
      let had : one (get old slot) ≡ 1 = ap (λ b. cond b 1 0) here in
      omega (arith, sum_by-set one old.slots slot (Some changed) None bound, had)

  pub ordered-write : IsOrdered written order
  ordered-write =
      let items = items_in old order in
      record {
        held = λ k d l. elim (cases_eq (get_or order k d) slot) [
          | inl same ↦ subst (ContainsKey written) (sym same) (ap is_some found)
          | inr ne ↦ ap is_some (elsewhere (get_or order k d) ne) ∙ ordered.held k d l
        ];
        counted = len-write ∙ ordered.counted;
        fits = omega (arith, len-write, ordered.fits);
        rise = subst Rise (sym items-write) (rise-with_cell place cell items ordered.rise);
      }
