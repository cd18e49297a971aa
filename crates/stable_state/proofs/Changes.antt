-- Items with one more, with another cell at a place, or without an item: their cells, order and marks.
use Rattle.std.proofs.Common.{◌≡◌, ℕ, ◌+◌, ◌<◌, Bool, true, false, not, ◌||◌, List, [], ◌∷◌, ◌++◌, length, take, drop, get_or, set, pos, refl, sym, ap, subst, ◌∙◌, inl, inr, Option, Some, add-one, if◌then◌else◌}
use Rattle.std.specs.List.{HoldsAt, slice_get}
use Rattle.std.specs.Ordering.{int_eq}
use Rattle.std.proofs.lemmas.Bool.{cases_Bool, cond-true, cond-false, cond_both, or_parts, not-false}
use Rattle.std.proofs.lemmas.Bool.Decides.{Decides-int_eq}
use Rattle.std.proofs.lemmas.List.{drop_more, get_or_default, set_split, take-append-drop}
use Rattle.std.proofs.lemmas.Option.{get_or_from_slice_get, slice_get_within}
use Rattle.std.proofs.lemmas.List.Elements.{All-cons, All-nil}
use Rattle.op_base.specs.declared.name.ObjectId.{ObjectId}
use Rattle.op_base.specs.declared.outcome.Cell.{Cell}
use Rattle.op_base.specs.declared.outcome.Item.{Item}
use Rattle.op_base.specs.declared.operation.Op.TheVariants as op
use Rattle.op_base.specs.declared.operation.Update.{Update}
use Rattle.causal_model.specs.Acts.{value_of}
use Rattle.causal_model.specs.CellSteps.{with_act, cell_with}
use Rattle.causal_model.specs.Items.{zero_cell, is_at, cell_in, is_filled, Rise}
use Rattle.stable_state.specs.Picked.{ArePicked, is_place, replaced}
use Rattle.stable_state.specs.Places.{with_cell, IsGapFor}
use Rattle.slab.specs.Slab.{Slab, get}
use Rattle.stable_state.specs.Shelf.{Shelved, IsSlotOf, put_at, without_span}
use Rattle.stable_state.specs.Slots.{no_item, items_in}
use Rattle.stable_state.proofs.Cells.{place_itself, same_place}
use Rattle.stable_state.proofs.Slots.{item_of_slot}
use Rattle.stable_state.proofs.Ordered.{with_cell_set, rise-with_cell}
use Rattle.stable_state.proofs.Spans.{cell_swapped, cell_without, rise_without, one_is_picked, none_is_picked}

-- the cell that isn't filled is the one with no mark and the sum 0
pub unfilled_is_zero : (cell : Cell) → is_filled cell ≡ false → cell ≡ zero_cell
unfilled_is_zero cell t =
    let marks = or_parts (cell.on || cell.off) (not (int_eq cell.sum (pos 0))) t in
    let both = or_parts cell.on cell.off marks.0 in
    let sum = (Decides-int_eq cell.sum (pos 0)).0 (not-false (int_eq cell.sum (pos 0)) marks.1) in
    λ i. record { on = both.0 i; off = both.1 i; sum = sum i }

-- a choice that is made twice
chosen_once : {X : Type 0} (b : Bool) (x y z : X) → (if b then (if b then x else y) else z) ≡ (if b then x else z)
chosen_once true x y z = refl
chosen_once false x y z = refl

-- where one item stands in the place of those that pass, the cell of its object and value is its cell
cell_of_one : (items : List Item) (from to : ℕ) (item : Item) → ArePicked (is_place item.object item.value) items from to → (object : ObjectId) (value : Option (List ℕ))
    → cell_in (take from items ++ item ∷ drop to items) object value ≡ (if is_place item.object item.value object value then item.cell else cell_in items object value)
cell_of_one items from to item picked object value =
    let passes = is_place item.object item.value in
    cell_swapped passes items from to picked (item ∷ []) (All-cons (λ (x : Item). passes x.object x.value ≡ true) item [] (place_itself item.object item.value) (All-nil (λ (x : Item). passes x.object x.value ≡ true))) object value
    ∙ chosen_once (passes object value) item.cell zero_cell (cell_in items object value)

-- ---- one item more

abbrev put_if_filled : ℕ → Item → List Item → List Item
put_if_filled place item items = if is_filled item.cell then put_at place item items else items

pub cell_put : (items : List Item) (place : ℕ) (item : Item) → IsGapFor item.object item.value items place → (object : ObjectId) (value : Option (List ℕ))
    → cell_in (put_if_filled place item items) object value ≡ (if is_place item.object item.value object value then item.cell else cell_in items object value)
cell_put items place item gap object value =
    let picked = none_is_picked item.object item.value items place gap in
    cond_both (is_filled item.cell) (put_at place item items) items
    (λ new. cell_in new object value ≡ (if is_place item.object item.value object value then item.cell else cell_in items object value))
    (λ _. cell_of_one items place place item picked object value)
    (λ f. ap (λ xs. cell_in xs object value) (sym (take-append-drop place items))
    ∙ cell_without (is_place item.object item.value) items place place picked object value
    ∙ ap (λ c. if is_place item.object item.value object value then c else cell_in items object value) (sym (unfilled_is_zero item.cell f)))

-- ---- another cell at a place

module _ (items : List Item) (place : ℕ) (item : Item) (rise : Rise items) (within : place < length items) (at : get_or items place item ≡ item) where
  abbrev here : ObjectId → Option (List ℕ) → Bool
  here object value = is_place item.object item.value object value

  -- the item has the cell of its object and value
  pub cell_there : cell_in items item.object item.value ≡ item.cell
  cell_there =
      let picked = one_is_picked items place item rise within at in
      let split : items ≡ take place items ++ item ∷ drop (place + 1) items = sym (take-append-drop place items) ∙ ap (λ ys. take place items ++ ys) (drop_more items place item within ∙ ap (λ (z : Item). z ∷ drop (place + 1) items) at) in
      ap (λ xs. cell_in xs item.object item.value) split
      ∙ cell_of_one items place (place + 1) item picked item.object item.value
      ∙ cond-true (here item.object item.value) item.cell (cell_in items item.object item.value) (place_itself item.object item.value)

  module _ (cell : Cell) where
    split : with_cell place cell items ≡ take place items ++ record item { cell = cell } ∷ drop (place + 1) items
    split =
        with_cell_set place cell items item ∙ ap (λ (x : Item). set items place (record x { cell = cell })) at
        ∙ set_split items place (record item { cell = cell }) within
        ∙ ap (λ n. take place items ++ record item { cell = cell } ∷ drop n items) (sym (add-one place))

    pub cell_rewritten : (object : ObjectId) (value : Option (List ℕ)) → cell_in (with_cell place cell items) object value ≡ (if here object value then cell else cell_in items object value)
    cell_rewritten object value =
        ap (λ xs. cell_in xs object value) split ∙ cell_of_one items place (place + 1) (record item { cell = cell }) (one_is_picked items place item rise within at) object value

    pub cell_replaced : (object : ObjectId) (value : Option (List ℕ)) → cell_in (replaced place cell items) object value ≡ (if here object value then cell else cell_in items object value)
    cell_replaced object value =
        let picked = one_is_picked items place item rise within at in
        cond_both (is_filled cell) (with_cell place cell items) (without_span place (place + 1) items)
        (λ new. cell_in new object value ≡ (if here object value then cell else cell_in items object value))
        (λ _. cell_rewritten object value)
        (λ f. cell_without here items place (place + 1) picked object value ∙ ap (λ c. if here object value then c else cell_in items object value) (sym (unfilled_is_zero cell f)))

    rise_replaced : Rise (replaced place cell items)
    rise_replaced = cond_both (is_filled cell) (with_cell place cell items) (without_span place (place + 1) items) Rise
        (λ _. rise-with_cell place cell items rise)
        (λ _. rise_without here items place (place + 1) (one_is_picked items place item rise within at) rise)

-- the item that stands at a place
module _ (items : List Item) (place : ℕ) (rise : Rise items) (within : place < length items) (cell : Cell) where
  some_item : Item
  some_item = get_or items place no_item

  at_place : get_or items place some_item ≡ some_item
  unfolding some_item
  at_place = get_or_default items place some_item no_item within

  pub rise_at : Rise (replaced place cell items)
  rise_at = rise_replaced items place some_item rise within at_place cell

-- the item that was found at an object and a value
module _ (object : ObjectId) (value : Option (List ℕ)) (items : List Item) (place : ℕ) (item : Item) (rise : Rise items) (found : HoldsAt (λ x. is_at object value x ≡ true) items place) (at : slice_get items place ≡ Some item) where
  stands : get_or items place item ≡ item
  stands = get_or_from_slice_get items place item item at

  within : place < length items
  within = slice_get_within items place item at

  same : (item.object ≡ object) × (item.value ≡ value)
  same = same_place item.object object item.value value (subst (λ (x : Item). is_at object value x ≡ true) stands (found item))

  pub cell_found : cell_in items object value ≡ item.cell
  cell_found = (λ i. cell_in items (sym same.0 i) (sym same.1 i)) ∙ cell_there items place item rise within stands

  pub cell_rewritten_at : (cell : Cell) (other : ObjectId) (other_value : Option (List ℕ))
      → cell_in (with_cell place cell items) other other_value ≡ (if is_place object value other other_value then cell else cell_in items other other_value)
  cell_rewritten_at cell other other_value =
      cell_rewritten items place item rise within stands cell other other_value
      ∙ (λ i. if is_place (same.0 i) (same.1 i) other other_value then cell else cell_in items other other_value)

  pub cell_replaced_at : (cell : Cell) (other : ObjectId) (other_value : Option (List ℕ))
      → cell_in (replaced place cell items) other other_value ≡ (if is_place object value other other_value then cell else cell_in items other other_value)
  cell_replaced_at cell other other_value =
      cell_replaced items place item rise within stands cell other other_value
      ∙ (λ i. if is_place (same.0 i) (same.1 i) other other_value then cell else cell_in items other other_value)

-- ---- one update

-- where an update's cell is put, each cell is that with the update
pub cell_changed : (old new : List Item) (u : Update) (cell : Cell) → cell ≡ with_act u.act (cell_in old u.object (value_of u.act))
    → ((object : ObjectId) (value : Option (List ℕ)) → cell_in new object value ≡ (if is_place u.object (value_of u.act) object value then cell else cell_in old object value))
    → (object : ObjectId) (value : Option (List ℕ)) → cell_in new object value ≡ cell_with object value (cell_in old object value) (op.Update u)
cell_changed old new u cell is cells object value =
    let at : Bool = is_place u.object (value_of u.act) object value in
    cells object value ∙ elim (cases_Bool at) [
      | inl t ↦
          let same = same_place u.object object (value_of u.act) value t in
          cond-true at cell (cell_in old object value) t ∙ is ∙ (λ i. with_act u.act (cell_in old (same.0 i) (same.1 i)))
          ∙ sym (cond-true at (with_act u.act (cell_in old object value)) (cell_in old object value) t)
      | inr f ↦ cond-false at cell (cell_in old object value) f ∙ sym (cond-false at (with_act u.act (cell_in old object value)) (cell_in old object value) f)
    ]

-- the cell that was put there has an off mark where the new one has
pub put_off : (old new : List Item) (u : Update) (cell : Cell) → cell ≡ with_act u.act (cell_in old u.object (value_of u.act)) → ((object : ObjectId) (value : Option (List ℕ)) → cell_in new object value ≡ cell_with object value (cell_in old object value) (op.Update u))
    → (cell_in new u.object (value_of u.act)).off ≡ true → cell.off ≡ true
put_off old new u cell is cells off =
    let object = u.object in
    let value = value_of u.act in
    let was = cell_in old object value in
    let same : cell_in new object value ≡ cell = cells object value ∙ cond-true (is_place object value object value) (with_act u.act was) was (place_itself object value) ∙ sym is in
    sym (ap (λ (c : Cell). c.off) same) ∙ off

-- where no item is of an object and a value, that of these may as well be the cell with no mark and the sum 0
pub cell_of_none : (object : ObjectId) (value : Option (List ℕ)) (items : List Item) (place : ℕ) → IsGapFor object value items place → (other : ObjectId) (other_value : Option (List ℕ))
    → cell_in items other other_value ≡ (if is_place object value other other_value then zero_cell else cell_in items other other_value)
cell_of_none object value items place gap other other_value =
    ap (λ xs. cell_in xs other other_value) (sym (take-append-drop place items))
    ∙ cell_without (is_place object value) items place place (none_is_picked object value items place gap) other other_value

-- ---- the item in a slot

module _ (slots : Slab Item) (order : List ℕ) (s : Shelved) (items_are : items_in slots order ≡ s.items) (slots_are : order ≡ s.slots) (object : ObjectId) (value : Option (List ℕ)) (slot : ℕ) (item : Item) (own : IsSlotOf object value s slot) (there : get slots slot ≡ Some item) where
  -- it stands at the slot's place
  pub item_there : slice_get s.items own.place ≡ Some item
  item_there =
      ap (λ items. slice_get items own.place) (sym items_are)
      ∙ item_of_slot slots order own.place slot item (ap (λ all. slice_get all own.place) slots_are ∙ own.at) there

  -- and has the cell of the object and the value
  pub slot_cell : Rise s.items → cell_in s.items object value ≡ item.cell
  slot_cell rise = cell_found object value s.items own.place item rise own.found item_there

  -- another cell in its place is theirs
  pub cell_in_slot : Rise s.items → (cell : Cell) (other : ObjectId) (other_value : Option (List ℕ))
      → cell_in (with_cell own.place cell s.items) other other_value ≡ (if is_place object value other other_value then cell else cell_in s.items other other_value)
  cell_in_slot rise cell other other_value = cell_rewritten_at object value s.items own.place item rise own.found item_there cell other other_value
