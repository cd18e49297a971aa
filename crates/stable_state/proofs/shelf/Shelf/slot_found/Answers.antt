use Rattle.std.proofs.Common.{◌≡◌, true, Some, ap, sym, subst, ◌∙◌}
use Rattle.std.specs.Prelude.{slice_get, is_some}
use Rattle.std.specs.Option.{option_copied}
use Rattle.std.proofs.lemmas.Option.{slice_get-get_or, get_or_from_slice_get}
use Rattle.op_base.specs.declared.outcome.Item.{Item}
use Rattle.causal_model.specs.Items.{is_at}
use Rattle.slab.specs.Slab.{get}
use Rattle.stable_state.specs.Shelf.{Shelved, IsSlotOf}
use Rattle.stable_state.specs.Slots.{items_in}
use Rattle.stable_state.proofs.Filled.{held_is_ordered}
use Rattle.stable_state.proofs.Slots.{item_of_slot, slots_apart}
use Rattle.stable_state.proofs.shelf.Shelf.slot_found.Goals as goal

pub returns-in-Some : goal.returns-in-Some
returns-in-Some c =
    let s = c.self.inside in
    let slot = c.in_ok-slot.slot in
    let order = s.order.items in
    let ordered = c.self.invariant.ordered in
    let item = c.in-Some.ranked.now in
    let there : get s.slots slot ≡ Some item = sym c.in-Some.ensures in
    let found = held_is_ordered s.slots order ordered.held ordered.counted (slots_apart s.slots order ordered.rise) slot (ap is_some there) in
    let at : slice_get order found.0 ≡ Some slot = slice_get-get_or order found.0 slot found.1 ∙ ap Some found.2 in
    let own : is_at c.args.object.now (option_copied c.args.value) item ≡ true =
    (λ i. is_at (sym c.new-sought.ensures.object i) (sym c.new-sought.ensures.value i) item) ∙ sym c.is_of.ensures ∙ c.if-is_of.true in
    subst (λ (shelved : Shelved). IsSlotOf c.args.object.now (option_copied c.args.value) shelved slot) c.self.view_is (record {
      place = found.0;
      at = at;
      found = λ d. subst (λ (x : Item). is_at c.args.object.now (option_copied c.args.value) x ≡ true) (sym (get_or_from_slice_get (items_in s.slots order) found.0 item d (item_of_slot s.slots order found.0 slot item at there))) own;
    })
