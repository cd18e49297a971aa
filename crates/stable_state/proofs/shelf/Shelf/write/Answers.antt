use Rattle.std.proofs.Common.{◌≡◌, ℕ, ◌+◌, ◌≤◌, Contains, Option, Some, List, true, false, [], ◌∷◌, ◌++◌, length, get_or, ap, sym, subst, ◌∙◌, length-append, arith, if◌then◌else◌}
use Rattle.std.specs.Prelude.{IsSome, vec_capacity, slice_get}
use Rattle.std.proofs.lemmas.Bool.{both_ways}
use Rattle.std.proofs.lemmas.List.{length-map}
use Rattle.std.proofs.lemmas.List.Elements.{Contains-append_left}
use Rattle.std.proofs.lemmas.Option.{get_or_from_slice_get, slice_get_within}
use Rattle.op_base.specs.declared.name.ObjectId.{ObjectId}
use Rattle.op_base.specs.declared.outcome.Item.{Item}
use Rattle.causal_model.specs.Items.{is_filled}
use Rattle.slab.specs.Slab.{Slab, get, slab_len, with_value}
use Rattle.stable_state.specs.Filled.{empties}
use Rattle.stable_state.specs.Places.{with_cell}
use Rattle.stable_state.specs.Slots.{no_item, item_in, items_in, IsOrdered}
use Rattle.stable_state.specs.Touched.{is_one_at, is_touched}
use Rattle.stable_state.proofs.Filled.{filled_and_empties, some_is_empty, some_is_filled, empties-with_cell}
use Rattle.stable_state.proofs.Slots.{held_item, item_is, item_at_place}
use Rattle.stable_state.proofs.Ordered.{written, found, items-write, one_at-write, len-write, ordered-write}
use Rattle.stable_state.proofs.Touched.{touched_in, touched_moves, touched-push}
use Rattle.stable_state.proofs.shelf.Shelf.write.Goals as goal
use Rattle.stable_state.proofs.shelf.Shelf.write.Goals.{then-cell, else-cell}

pub prove-unreachable-requires : goal.prove-unreachable-requires
prove-unreachable-requires c =
    let s = c.self.inside in
    omega (arith, c.if-prove.true, c.len.ensures, c.self.invariant.counted, filled_and_empties (items_in s.slots s.order.items), length-map s.order.items (item_in s.slots))

pub recounted-self-inside-requires-clause-some : goal.recounted-self-inside-requires-clause-some
recounted-self-inside-requires-clause-some c = λ f.
    let s = c.self.inside in
    let has = subst (λ xs. Contains xs c.args.slot) (sym (ap (λ shelved. shelved.slots) c.self.view_is)) c.requires.held in
    omega (arith, c.self.invariant.counted, some_is_empty s.slots s.order.items c.args.slot has c.item.result.now (c.index.ensures ∙ ap Some (sym c.item.ensures)) (sym c.is_filled.ensures ∙ f))

pub recounted-self-inside-requires-clause-few : goal.recounted-self-inside-requires-clause-few
recounted-self-inside-requires-clause-few c = λ t f.
    let s = c.self.inside in
    let has = subst (λ xs. Contains xs c.args.slot) (sym (ap (λ shelved. shelved.slots) c.self.view_is)) c.requires.held in
    omega (arith, c.self.invariant.counted, c.len.ensures, some_is_filled s.slots s.order.items c.args.slot has c.item.result.now (c.index.ensures ∙ ap Some (sym c.item.ensures)) (sym c.is_filled.ensures ∙ t))

-- the slot's place in the order
stands : (c : goal.After-write_cell) → Contains c.self.inside.order.items c.args.slot
stands c = subst (λ xs. Contains xs c.args.slot) (sym (ap (λ shelved. shelved.slots) c.self.view_is)) c.requires.held

-- the slots with the item's new cell
abbrev renewed : goal.After-write_cell → Slab Item
renewed c = written c.self.inside.slots c.self.inside.order.items (stands c).0 c.args.slot c.args.cell c.self.invariant.ordered (stands c).1 (stands c).2

-- what the fields are where the branches meet
record Noted (c : goal.After-write_cell) : Type 0 where
  slots : c.if-cell.self-inside.slots ≡ c.self.inside.slots
  order : c.if-cell.self-inside.order ≡ c.self.inside.order
  empties : c.if-cell.self-inside.empties ≡ c.recounted-self-inside.result
  more : (slot : ℕ) → Contains c.self.inside.touched.items slot → Contains c.if-cell.self-inside.touched.items slot
  marked : c.args.cell.off ≡ true → c.if-cell.self-inside.touched.items ≡ c.self.inside.touched.items ++ c.args.slot ∷ []
  unmarked : c.args.cell.off ≡ false → c.if-cell.self-inside.touched.items ≡ c.self.inside.touched.items
  room : vec_capacity c.self.inside.touched ≤ vec_capacity c.if-cell.self-inside.touched
  len : length c.if-cell.self-inside.touched.items ≤ length c.self.inside.touched.items + 1

noted : (c : goal.After-write_cell) → Noted c
noted c =
    let s = c.self.inside in
    let slot = c.args.slot in
    elim c.if-cell.branch [
      | then-cell w ↦
          let is : c.if-cell.self-inside.touched.items ≡ s.touched.items ++ slot ∷ [] = ap (λ i. i.touched.items) w.self-inside-is ∙ w.add.ensures.items in
          record {
            slots = ap (λ i. i.slots) w.self-inside-is;
            order = ap (λ i. i.order) w.self-inside-is;
            empties = ap (λ i. i.empties) w.self-inside-is;
            more = λ other has. subst (λ xs. Contains xs other) (sym is) (Contains-append_left s.touched.items (slot ∷ []) other has);
            marked = λ _. is;
            unmarked = λ off. absurd (both_ways c.args.cell.off off w.if-cell.true);
            room = subst (λ i. vec_capacity s.touched ≤ vec_capacity i.touched) (sym w.self-inside-is) w.add.ensures.capacity;
            len = omega (arith, ap length is, length-append s.touched.items (slot ∷ []));
          }
      | else-cell w ↦ record {
        slots = ap (λ i. i.slots) w.self-inside-is;
        order = ap (λ i. i.order) w.self-inside-is;
        empties = ap (λ i. i.empties) w.self-inside-is;
        more = λ other has. subst (λ i. Contains i.touched.items other) (sym w.self-inside-is) has;
        marked = λ off. absurd (both_ways c.args.cell.off w.if-cell.false off);
        unmarked = λ _. ap (λ i. i.touched.items) w.self-inside-is;
        room = omega (arith, ap (λ i. vec_capacity i.touched) w.self-inside-is);
        len = omega (arith, ap (λ i. length i.touched.items) w.self-inside-is);
      }
    ]

held : (c : goal.After-write_cell) → IsSome (get c.self.inside.slots c.args.slot)
held c = subst (λ k. IsSome (get c.self.inside.slots k)) (stands c).2 (c.self.invariant.ordered.held (stands c).0 c.args.slot (stands c).1)

written_is : (c : goal.After-write_cell) → c.write_cell.new.slots ≡ renewed c
written_is c =
    let s = c.self.inside in
    let slot = c.args.slot in
    c.write_cell.ensures.written (item_in s.slots slot) (ap (λ slots. get slots slot) (noted c).slots ∙ held_item s.slots slot (held c))
    ∙ ap (λ slots. with_value slots slot (record (item_in s.slots slot) { cell = c.args.cell })) (noted c).slots

pub invariant_of-self : goal.invariant_of-self
invariant_of-self c =
    let s = c.self.inside in
    let order = s.order.items in
    let place = (stands c).0 in
    let slot = c.args.slot in
    let items = items_in s.slots order in
    let was : get_or items place no_item ≡ c.item.result.now = item_at_place s.slots order place slot no_item (stands c).1 ∙ ap (item_in s.slots) (stands c).2 ∙ item_is s.slots slot c.item.result.now (c.index.ensures ∙ ap Some (sym c.item.ensures)) in
    let counts = empties-with_cell place c.args.cell items no_item (omega (arith, (stands c).1, length-map order (item_in s.slots))) in
    let same : items_in c.write_cell.new.slots c.if-cell.self-inside.order.items ≡ with_cell place c.args.cell items =
    (λ i. items_in (written_is c i) ((noted c).order i).items) ∙ items-write s.slots order place slot c.args.cell c.self.invariant.ordered (stands c).1 (stands c).2 in
    let old : ◌≡◌ {A = ℕ} (if is_filled (get_or items place no_item).cell then 0 else 1) (if c.is_filled.result then 0 else 1) = λ i. if ((ap (λ (x : Item). is_filled x.cell) was) ∙ sym c.is_filled.ensures) i then 0 else 1 in
    let new : ◌≡◌ {A = ℕ} (if is_filled c.args.cell then 0 else 1) (if c.is_filled-2.result then 0 else 1) = λ i. if (sym c.is_filled-2.ensures) i then 0 else 1 in
    record {
      ordered = subst (λ slots. IsOrdered slots c.if-cell.self-inside.order.items) (sym (written_is c)) (subst (λ (o : List ℕ). IsOrdered (renewed c) o) (sym (ap (λ o. o.items) (noted c).order)) (ordered-write s.slots order place slot c.args.cell c.self.invariant.ordered (stands c).1 (stands c).2));
      counted = omega (arith, (noted c).empties, c.recounted-self-inside.ensures, c.self.invariant.counted, counts, ap empties same, old, new);
    }

pub returns-clause-rise : goal.returns-clause-rise
returns-clause-rise c = (invariant_of-self c).ordered.rise

pub returns-clause-items : goal.returns-clause-items
returns-clause-items c = λ place at.
    let s = c.self.inside in
    let order = s.order.items in
    let here = ap (λ shelved. slice_get shelved.slots place) c.self.view_is ∙ at in
    (λ i. items_in (written_is c i) ((noted c).order i).items)
    ∙ items-write s.slots order place c.args.slot c.args.cell c.self.invariant.ordered (slice_get_within order place c.args.slot here) (get_or_from_slice_get order place c.args.slot c.args.slot here)
    ∙ ap (λ shelved. with_cell place c.args.cell shelved.items) c.self.view_is

-- in each slot stands an item of the object and value of before
one_at : (c : goal.After-write_cell) (object : ObjectId) (value : Option (List ℕ)) (slot : ℕ) → is_one_at object value (get c.write_cell.new.slots slot) ≡ is_one_at object value (get c.self.inside.slots slot)
one_at c object value slot =
    let s = c.self.inside in
    ap (λ slots. is_one_at object value (get slots slot)) (written_is c)
    ∙ one_at-write s.slots s.order.items (stands c).0 c.args.slot c.args.cell c.self.invariant.ordered (stands c).1 (stands c).2 object value slot

-- what was touched is so still
touched_still : (c : goal.After-write_cell) (object : ObjectId) (value : Option (List ℕ)) → is_touched c.args.self.now.touched object value ≡ true → is_touched (touched_in c.write_cell.new.slots c.if-cell.self-inside.touched.items) object value ≡ true
touched_still c object value t =
    let s = c.self.inside in
    touched_moves object value s.slots c.write_cell.new.slots s.touched.items c.if-cell.self-inside.touched.items (noted c).more (λ slot at. one_at c object value slot ∙ at)
    (ap (λ shelved. is_touched shelved.touched object value) c.self.view_is ∙ t)

pub returns-clause-stay : goal.returns-clause-stay
returns-clause-stay c = λ object value t off. touched_still c object value t

pub returns-clause-marked : goal.returns-clause-marked
returns-clause-marked c = λ place at off d.
    let s = c.self.inside in
    let order = s.order.items in
    let slot = c.args.slot in
    let stands_there = ap (λ shelved. slice_get shelved.slots place) c.self.view_is ∙ at in
    let within = slice_get_within order place slot stands_there in
    let here : get_or c.args.self.now.items place d ≡ item_in s.slots slot =
    ap (λ shelved. get_or shelved.items place d) (sym c.self.view_is) ∙ item_at_place s.slots order place slot d within ∙ ap (item_in s.slots) (get_or_from_slice_get order place slot slot stands_there) in
    let Touched : Item → Type 0 = λ item. is_touched (touched_in c.write_cell.new.slots c.if-cell.self-inside.touched.items) item.object item.value ≡ true in
    subst Touched (sym here)
    ((λ i. is_touched (touched_in (written_is c i) ((noted c).marked off i)) (item_in s.slots slot).object (item_in s.slots slot).value)
    ∙ touched-push (renewed c) s.touched.items slot (record (item_in s.slots slot) { cell = c.args.cell }) (found s.slots order (stands c).0 slot c.args.cell c.self.invariant.ordered (stands c).1 (stands c).2))

pub returns-clause-unmarked : goal.returns-clause-unmarked
returns-clause-unmarked c = λ off.
    let s = c.self.inside in
    let slots = c.write_cell.new.slots in
    let touched = c.if-cell.self-inside.touched.items in
    record {
      count = length-map touched (get slots) ∙ ap length ((noted c).unmarked off) ∙ sym (length-map s.touched.items (get s.slots)) ∙ ap (λ shelved. length shelved.touched) c.self.view_is;
      stay = λ object value t _. touched_still c object value t;
      fewer = λ object value t.
          sym (ap (λ shelved. is_touched shelved.touched object value) c.self.view_is)
          ∙ touched_moves object value slots s.slots touched s.touched.items (λ slot has. subst (λ xs. Contains xs slot) ((noted c).unmarked off) has) (λ slot at. sym (one_at c object value slot) ∙ at) t;
    }

len_is : (c : goal.After-write_cell) → slab_len (renewed c) ≡ slab_len c.self.inside.slots
len_is c = len-write c.self.inside.slots c.self.inside.order.items (stands c).0 c.args.slot c.args.cell c.self.invariant.ordered (stands c).1 (stands c).2

pub returns-clause-spare : goal.returns-clause-spare
returns-clause-spare c =
    let n = noted c in
    omega (arith, ap (λ shelved. shelved.spare) c.self.view_is, ap (λ slots. slab_len slots) (written_is c), ap (λ slots. slots.capacity) (written_is c), len_is c, ap (λ order. order.spare) n.order, n.room, n.len)

pub returns-clause-kept : goal.returns-clause-kept
returns-clause-kept c off =
    let n = noted c in
    omega (arith, ap (λ shelved. shelved.spare) c.self.view_is, ap (λ slots. slab_len slots) (written_is c), ap (λ slots. slots.capacity) (written_is c), len_is c, ap (λ order. order.spare) n.order, n.room, ap length (n.unmarked off))
