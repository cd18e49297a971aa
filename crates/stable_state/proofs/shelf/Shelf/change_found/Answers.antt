use Rattle.std.proofs.Common.{◌≡◌, ◌^◌, ◌+ℤ◌, Some, ap, sym, subst, ◌∙◌}
use Rattle.std.specs.Prelude.{slice_get}
use Rattle.std.proofs.lemmas.Option.{get_or_from_slice_get, slice_get_within}
use Rattle.op_base.specs.declared.outcome.Cell.{Cell}
use Rattle.causal_model.specs.Acts.{value_of, amount_of}
use Rattle.causal_model.specs.CellSteps.{with_act}
use Rattle.causal_model.specs.Items.{cell_in}
use Rattle.causal_model.specs.Query.{IsWithin}
use Rattle.slab.specs.Slab.{ContainsKey}
use Rattle.stable_state.specs.Shelf.{IsSlotOf}
use Rattle.stable_state.proofs.Changes.{cell_changed, slot_cell, cell_in_slot, put_off}
use Rattle.stable_state.proofs.Touched.{touched_at_found}
use Rattle.stable_state.proofs.shelf.Shelf.change_found.Goals as goal

pub index-requires : goal.index-requires
index-requires c =
    let s = c.self.inside in
    let slot = c.in-Some.slot in
    let own = c.in-Some.ensures in
    let at : slice_get s.order.items own.place ≡ Some slot = ap (λ shelved. slice_get shelved.slots own.place) c.self.view_is ∙ own.at in
    subst (ContainsKey s.slots) (get_or_from_slice_get s.order.items own.place slot slot at) (c.self.invariant.ordered.held own.place slot (slice_get_within s.order.items own.place slot at))

pub with_act-cell-requires : goal.with_act-cell-requires
with_act-cell-requires c =
    let u = c.args.update.now in
    let s = c.self.inside in
    let shelved = c.args.self.now in
    let own = subst (λ v. IsSlotOf u.object v shelved c.in-Some.slot) c.value_of.ensures c.in-Some.ensures in
    let is = slot_cell s.slots s.order.items shelved (ap (λ s. s.items) c.self.view_is) (ap (λ s. s.slots) c.self.view_is) u.object (value_of u.act) c.in-Some.slot c.item.result.now own (c.index.ensures ∙ ap Some (sym c.item.ensures)) c.requires.rise in
    subst (λ (cell : Cell). IsWithin (2 ^ 127) (cell.sum +ℤ amount_of u.act)) is c.requires.range

pub write-requires-clause-held : goal.write-requires-clause-held
write-requires-clause-held c =
    let slots = c.args.self.now.slots in
    let slot = c.in-Some.slot in
    let own = c.in-Some.ensures in
    (own.place, slice_get_within slots own.place slot own.at, get_or_from_slice_get slots own.place slot slot own.at)

-- the slot is that of the update's item
own : (c : goal.After-write) → IsSlotOf c.args.update.now.object (value_of c.args.update.now.act) c.args.self.now c.in-Some.slot
own c = subst (λ v. IsSlotOf c.args.update.now.object v c.args.self.now c.in-Some.slot) c.value_of.ensures c.in-Some.ensures

-- the cell that is written there is the one with the update
cell_is : (c : goal.After-write) → c.with_act-cell.result ≡ with_act c.args.update.now.act (cell_in c.args.self.now.items c.args.update.now.object (value_of c.args.update.now.act))
cell_is c =
    let u = c.args.update.now in
    let s = c.self.inside in
    c.with_act-cell.ensures
    ∙ ap (with_act u.act) (sym (slot_cell s.slots s.order.items c.args.self.now (ap (λ s. s.items) c.self.view_is) (ap (λ s. s.slots) c.self.view_is) u.object (value_of u.act) c.in-Some.slot c.item.result.now (own c) (c.index.ensures ∙ ap Some (sym c.item.ensures)) c.requires.rise))

pub returns-clause-cells : goal.returns-clause-cells
returns-clause-cells c = λ _.
    let u = c.args.update.now in
    let s = c.self.inside in
    let items = c.args.self.now.items in
    cell_changed items c.write.new.self.items u c.with_act-cell.result (cell_is c) (λ object value.
    ap (λ xs. cell_in xs object value) (c.write.ensures.items (own c).place (own c).at)
    ∙ cell_in_slot s.slots s.order.items c.args.self.now (ap (λ s. s.items) c.self.view_is) (ap (λ s. s.slots) c.self.view_is) u.object (value_of u.act) c.in-Some.slot c.item.result.now (own c) (c.index.ensures ∙ ap Some (sym c.item.ensures)) c.requires.rise c.with_act-cell.result object value)

pub returns-clause-marked : goal.returns-clause-marked
returns-clause-marked c = λ t off.
    let u = c.args.update.now in
    let items = c.args.self.now.items in
    touched_at_found c.write.new.self.touched items (own c).place u.object (value_of u.act) (own c).found
    (c.write.ensures.marked (own c).place (own c).at (put_off items c.write.new.self.items u c.with_act-cell.result (cell_is c) (returns-clause-cells c t) off))
