use Rattle.std.proofs.Common.{◌≡◌, ◌+◌, ◌≤◌, ℕ, List, Option, length, ap, sym, subst, ◌∙◌, arith}
use Rattle.std.specs.Prelude.{slice_range}
use Rattle.std.specs.List.{remove_range}
use Rattle.std.proofs.lemmas.List.{length-map}
use Rattle.std.proofs.lemmas.List.Edits.{length-between}
use Rattle.op_base.specs.declared.name.ObjectId.{ObjectId}
use Rattle.causal_model.specs.Items.{cell_in}
use Rattle.slab.specs.Slab.{get, slab_len}
use Rattle.stable_state.specs.Filled.{empties}
use Rattle.stable_state.specs.Slots.{item_in, items_in, IsOrdered}
use Rattle.stable_state.specs.Touched.{is_touched}
use Rattle.stable_state.proofs.Slots.{slots_apart}
use Rattle.stable_state.proofs.Filled.{empties-without}
use Rattle.stable_state.proofs.Ordered.{items-remove, ordered-remove}
use Rattle.stable_state.proofs.Touched.{fewer-remove, stay-remove}
use Rattle.stable_state.proofs.shelf.Shelf.take_out.Goals as goal

pub overflow_sub-self : goal.overflow_sub-self
overflow_sub-self c = omega (arith, c.self.invariant.counted, c.empties_in.ensures, ap (λ shelved. empties shelved.items) c.self.view_is, empties-without c.args.from c.args.to c.args.self.now.items c.requires.ordered c.requires.within)

pub empty_slots-requires-clause-apart : goal.empty_slots-requires-clause-apart
empty_slots-requires-clause-apart c = slots_apart c.self.inside.slots c.self.inside.order.items c.self.invariant.ordered.rise

within : (c : goal.After-remove_range) → c.args.to ≤ length c.self.inside.order.items
within c = omega (arith, c.requires.within, ap (λ shelved. length shelved.items) c.self.view_is, length-map c.self.inside.order.items (item_in c.self.inside.slots))

items_are : (c : goal.After-remove_range) → items_in c.empty_slots.new.slots c.remove_range.new.self.items ≡ remove_range (items_in c.self.inside.slots c.self.inside.order.items) c.args.from c.args.to
items_are c =
    let s = c.self.inside in
    let new = c.empty_slots.new.slots in
    ap (items_in new) c.remove_range.ensures.items ∙ items-remove s.slots new s.order.items c.args.from c.args.to c.self.invariant.ordered c.requires.ordered (within c) c.empty_slots.ensures.each

pub invariant_of-self : goal.invariant_of-self
invariant_of-self c =
    let s = c.self.inside in
    let order = s.order.items in
    let new = c.empty_slots.new.slots in
    let items = items_in s.slots order in
    let len : slab_len new + length (slice_range order c.args.from c.args.to) ≡ slab_len s.slots = omega (arith, c.empty_slots.ensures.len, length-between order c.args.from c.args.to (within c)) in
    record {
      ordered = subst (IsOrdered new) (sym c.remove_range.ensures.items)
          (ordered-remove s.slots new order c.args.from c.args.to c.self.invariant.ordered c.requires.ordered (within c) c.empty_slots.ensures.each len c.empty_slots.ensures.capacity);
      counted = omega (
        arith,
        c.self.invariant.counted,
        c.empties_in.ensures,
        ap (λ shelved. empties (slice_range shelved.items c.args.from c.args.to)) c.self.view_is,
        ap empties (items_are c),
        empties-without c.args.from c.args.to items c.requires.ordered (omega (arith, within c, length-map order (item_in s.slots))),
      );
    }

pub returns-clause-items : goal.returns-clause-items
returns-clause-items c = items_are c ∙ ap (λ shelved. remove_range shelved.items c.args.from c.args.to) c.self.view_is

pub returns-clause-touched : goal.returns-clause-touched
returns-clause-touched c =
    let s = c.self.inside in
    let new = c.empty_slots.new.slots in
    let touched = s.touched.items in
    let was = λ (object : ObjectId) (value : Option (List ℕ)). ap (λ shelved. is_touched shelved.touched object value) c.self.view_is in
    record {
      count = length-map touched (get new) ∙ sym (length-map touched (get s.slots)) ∙ ap (λ shelved. length shelved.touched) c.self.view_is;
      stay = λ object value t off.
          stay-remove s.slots new s.order.items c.args.from c.args.to c.self.invariant.ordered (within c) c.empty_slots.ensures.each touched object value
          (ap (λ items. (cell_in items object value).off) (sym (items_are c)) ∙ off) (was object value ∙ t);
      fewer = λ object value t. sym (was object value) ∙ fewer-remove s.slots new s.order.items c.args.from c.args.to c.self.invariant.ordered (within c) c.empty_slots.ensures.each touched object value t;
    }

pub returns-clause-spare : goal.returns-clause-spare
returns-clause-spare c = omega (arith, ap (λ shelved. shelved.spare) c.self.view_is, c.empty_slots.ensures.len, c.empty_slots.ensures.capacity, c.remove_range.ensures.spare)
