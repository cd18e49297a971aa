-- What stands in touched slots, while slots change; and what was touched last.
use Rattle.std.proofs.Common.{◌≡◌, ◌⊎◌, ℕ, ◌+◌, ◌-◌, ◌<◌, ◌≤◌, true, false, Contains, List, [], ◌∷◌, ◌++◌, ◌||◌, map, length, take, get_or, refl, sym, ap, ◌∙◌, inl, inr, Option, Some, None, length-append, arith}
use Rattle.std.specs.Prelude.{slice_range}
use Rattle.std.specs.List.{HoldsAt, list_any}
use Rattle.std.specs.Option.{IfSome}
use Rattle.std.proofs.lemmas.Bool.{false≢true, or_cases, or_left, or_right}
use Rattle.std.proofs.lemmas.List.{length-map, take_all, take_more}
use Rattle.std.proofs.lemmas.List.Edits.{length-between, get_or-between}
use Rattle.std.proofs.lemmas.List.Elements.{Contains-push}
use Rattle.std.proofs.lemmas.List.Folds.{list_any-append}
use Rattle.op_base.specs.declared.name.ObjectId.{ObjectId}
use Rattle.op_base.specs.declared.outcome.Cell.{Cell}
use Rattle.op_base.specs.declared.outcome.Item.{Item}
use Rattle.causal_model.specs.Items.{is_at, cell_in}
use Rattle.causal_model.proofs.Theory.Elements.{item_from_list_any, list_any-from_item, list_any-map}
use Rattle.slab.specs.Slab.{Slab, get, Updates}
use Rattle.stable_state.specs.Places.{IsGapFor}
use Rattle.stable_state.specs.Shelf.{Shelved, without_span}
use Rattle.stable_state.specs.Slots.{no_item, item_in, items_in, IsOrdered}
use Rattle.stable_state.specs.Touched.{is_one_at, is_touched, IsPlaceOf, IsTouchedAt, IsLast}
use Rattle.stable_state.proofs.Cells.{place_itself, same_place}
use Rattle.stable_state.proofs.Slots.{item_is, item_at_place}
use Rattle.stable_state.proofs.Spans.{cell_of_span, cell_of_gap}

-- what stands in touched slots
abbrev pub touched_in : Slab Item → List ℕ → List (Option Item)
touched_in slots touched = map (get slots) touched

-- an item that was there is of its own object and value
item_itself : (item : Item) → is_at item.object item.value item ≡ true
item_itself item = place_itself item.object item.value

module _ (object : ObjectId) (value : Option (List ℕ)) where
  -- a slot where what was touched stands
  one_is_touched : (slots : Slab Item) (touched : List ℕ) → is_touched (touched_in slots touched) object value ≡ true → (slot : ℕ) × (Contains touched slot × (is_one_at object value (get slots slot) ≡ true))
  one_is_touched slots touched t = item_from_list_any (λ slot. is_one_at object value (get slots slot)) touched (sym (list_any-map (is_one_at object value) (get slots) touched) ∙ t)

  touched_by : (slots : Slab Item) (touched : List ℕ) (slot : ℕ) → Contains touched slot → is_one_at object value (get slots slot) ≡ true → is_touched (touched_in slots touched) object value ≡ true
  touched_by slots touched slot has t = list_any-map (is_one_at object value) (get slots) touched ∙ list_any-from_item (λ s. is_one_at object value (get slots s)) touched slot has t

  -- what was touched is so in a list with the same slots and maybe more, where it stands in its slot still
  pub touched_moves : (old new : Slab Item) (before after : List ℕ) → ((slot : ℕ) → Contains before slot → Contains after slot)
      → ((slot : ℕ) → is_one_at object value (get old slot) ≡ true → is_one_at object value (get new slot) ≡ true)
      → is_touched (touched_in old before) object value ≡ true → is_touched (touched_in new after) object value ≡ true
  touched_moves old new before after more stands t =
      let one = one_is_touched old before t in
      touched_by new after one.0 (more one.0 one.1.0) (stands one.0 one.1.1)

-- the item whose slot is put into the list is touched
pub touched-push : (slots : Slab Item) (touched : List ℕ) (slot : ℕ) (item : Item) → get slots slot ≡ Some item → is_touched (touched_in slots (touched ++ slot ∷ [])) item.object item.value ≡ true
touched-push slots touched slot item is = touched_by item.object item.value slots (touched ++ slot ∷ []) slot (Contains-push touched slot) (ap (is_one_at item.object item.value) is ∙ item_itself item)

-- ---- an item is put into a slot that had none

module _ (old new : Slab Item) (slot : ℕ) (item : Item) (vacant : get old slot ≡ None) (changes : Updates old new slot (Some item)) where
  -- what stands in its slot stands there still
  pub stands-insert : (object : ObjectId) (value : Option (List ℕ)) (other : ℕ) → is_one_at object value (get old other) ≡ true → is_one_at object value (get new other) ≡ true
  stands-insert object value other t =
      ap (is_one_at object value) (changes.others other (λ same. false≢true (sym (ap (λ s. is_one_at object value (get old s)) same ∙ ap (is_one_at object value) vacant) ∙ t))) ∙ t

-- ---- some items are let go

module _ (old new : Slab Item) (order : List ℕ) (from to : ℕ) (ordered : IsOrdered old order) (within : to ≤ length order)
    (each : (slot : ℕ) → (get new slot ≡ get old slot) ⊎ (Contains (slice_range order from to) slot × (get new slot ≡ None))) where
  -- what is touched now was touched
  pub fewer-remove : (touched : List ℕ) (object : ObjectId) (value : Option (List ℕ)) → is_touched (touched_in new touched) object value ≡ true → is_touched (touched_in old touched) object value ≡ true
  fewer-remove touched object value = touched_moves object value new old touched touched (λ _ has. has) (λ slot t. elim (each slot) [
    | inl same ↦ ap (is_one_at object value) (sym same) ∙ t
    | inr gone ↦ absurd (false≢true (sym (ap (is_one_at object value) gone.1) ∙ t))
  ])

  -- and what was touched is so still, if it is there
  pub stay-remove : (touched : List ℕ) (object : ObjectId) (value : Option (List ℕ)) → (cell_in (without_span from to (items_in old order)) object value).off ≡ true
      → is_touched (touched_in old touched) object value ≡ true → is_touched (touched_in new touched) object value ≡ true
  stay-remove touched object value off = touched_moves object value old new touched touched (λ _ has. has) (λ slot t. elim (each slot) [
    | inl same ↦ ap (is_one_at object value) same ∙ t
    | inr gone ↦ absurd (let one = item_of (get old slot) t in gone_item slot one.0 one.1.0 one.1.1 gone.0)
  ]) where
    item_of : (o : Option Item) → is_one_at object value o ≡ true → (item : Item) × ((o ≡ Some item) × (is_at object value item ≡ true))
    item_of None t = absurd (false≢true t)
    item_of (Some item) t = (item, (refl, t))

    gone_item : (slot : ℕ) (item : Item) → get old slot ≡ Some item → is_at object value item ≡ true → Contains (slice_range order from to) slot → ⊥
    gone_item slot item is at found =
        let inside : from + found.0 < to = omega (arith, found.1, length-between order from to within) in
        let here : get_or (items_in old order) (from + found.0) item ≡ item =
        item_at_place old order (from + found.0) slot item (omega (arith, inside, within)) ∙ ap (item_in old) (sym (get_or-between order from to found.0 slot inside) ∙ found.2) ∙ item_is old slot item is in
        let zero = cell_of_span object value (items_in old order) from to ordered.rise (omega (arith, within, length-map order (item_in old))) (from + found.0) item (omega arith) inside here at in
        false≢true (sym (ap (λ (c : Cell). c.off) zero) ∙ off)

-- ---- what was touched last

module _ (s : Shelved) (some : 0 < length s.touched) where
  abbrev before : List (Option Item)
  before = take (length s.touched - 1) s.touched

  module _ (one : Option Item) (is : get_or s.touched (length s.touched - 1) None ≡ one) where
    parted : s.touched ≡ before ++ one ∷ []
    parted =
        sym (take_all (length s.touched - 1 + 1) s.touched (omega arith)) ∙ take_more s.touched (length s.touched - 1) None (omega arith)
        ∙ ap (λ o. before ++ o ∷ []) is

    touched_parts : (object : ObjectId) (value : Option (List ℕ)) → is_touched s.touched object value ≡ (is_touched before object value || (is_one_at object value one || false))
    touched_parts object value = ap (list_any (is_one_at object value)) parted ∙ list_any-append (is_one_at object value) before (one ∷ [])

    is_last : (place : Option ℕ) → IfSome place (IsTouchedAt s) → ((object : ObjectId) (value : Option (List ℕ)) → is_one_at object value one ≡ true → IsPlaceOf place s.items object value) → IsLast s before place
    is_last place at stands = record {
      count = omega (arith, ap length parted, length-append before (one ∷ []));
      fewer = λ object value t. touched_parts object value ∙ or_left (is_touched before object value) (is_one_at object value one || false) t;
      at = at;
      last = λ object value t. elim (or_cases (is_touched before object value) (is_one_at object value one || false) (sym (touched_parts object value) ∙ t)) [
        | inl sooner ↦ inl sooner
        | inr here ↦ elim (or_cases (is_one_at object value one) false here) [ inl at_one ↦ inr (stands object value at_one) | inr none ↦ absurd (false≢true none) ]
      ];
    }

  module _ (item : Item) (is : get_or s.touched (length s.touched - 1) None ≡ Some item) where
    -- its item stands nowhere
    pub absent_is_last : (place : ℕ) → IsGapFor item.object item.value s.items place → IsLast s before None
    absent_is_last place gap = is_last (Some item) is None tt (λ object value t.
        let same = same_place item.object object item.value value t in
        (λ i. cell_in s.items (sym same.0 i) (sym same.1 i)) ∙ cell_of_gap item.object item.value s.items place gap)

    -- its item stands at a place
    pub found_is_last : (place : ℕ) → place < length s.items → HoldsAt (λ x. is_at item.object item.value x ≡ true) s.items place → IsLast s before (Some place)
    found_is_last place within found =
        is_last (Some item) is (Some place) (record {
          within = within;
          touched = λ d.
              let x = get_or s.items place d in
              let same = same_place x.object item.object x.value item.value (found d) in
              (λ i. is_touched s.touched (same.0 i) (same.1 i)) ∙ touched_parts (Some item) is item.object item.value
              ∙ or_right (is_touched before item.object item.value) (is_one_at item.object item.value (Some item) || false) (or_left (is_at item.object item.value item) false (item_itself item));
        }) (λ object value t d.
        let same = same_place item.object object item.value value t in
        (λ i. is_at (sym same.0 i) (sym same.1 i) (get_or s.items place d)) ∙ found d)

-- what is at a place where something was touched is touched
pub touched_at_found : (touched : List (Option Item)) (items : List Item) (place : ℕ) (object : ObjectId) (value : Option (List ℕ)) → HoldsAt (λ x. is_at object value x ≡ true) items place
    → HoldsAt (λ x. is_touched touched x.object x.value ≡ true) items place → is_touched touched object value ≡ true
touched_at_found touched items place object value found at =
    let x = get_or items place no_item in
    let same = same_place x.object object x.value value (found no_item) in
    (λ i. is_touched touched (sym same.0 i) (sym same.1 i)) ∙ at no_item
