use Rattle.std.proofs.Common.{◌≡◌, ℕ, ◌^◌, ◌+ℤ◌, true, List, Option, ap, sym, subst, ◌∙◌, if◌then◌else◌}
use Rattle.std.specs.List.{HoldsAt}
use Rattle.op_base.specs.declared.name.ObjectId.{ObjectId}
use Rattle.op_base.specs.declared.operation.Op.TheVariants as op
use Rattle.op_base.specs.declared.operation.Update.{Update}
use Rattle.op_base.specs.declared.outcome.Cell.{Cell}
use Rattle.op_base.specs.declared.outcome.Item.{Item}
use Rattle.causal_model.specs.Acts.{value_of, amount_of}
use Rattle.causal_model.specs.CellSteps.{with_act, cell_with}
use Rattle.causal_model.specs.Items.{cell_in, is_at}
use Rattle.causal_model.specs.Query.{IsWithin}
use Rattle.stable_state.specs.Picked.{is_place}
use Rattle.stable_state.specs.Places.{IsGapFor}
use Rattle.stable_state.specs.Laws.{HasRange}
use Rattle.stable_state.specs.Shelf.{Shelved}
use Rattle.stable_state.specs.Touched.{is_touched}
use Rattle.stable_state.proofs.Changes.{cell_changed, cell_found, cell_put, cell_replaced_at, put_off}
use Rattle.stable_state.proofs.Spans.{cell_of_gap}
use Rattle.stable_state.proofs.Touched.{touched_at_found}
use Rattle.stable_state.proofs.items.Items.change.Goals as goal

-- each cell is that with an update
abbrev HasChanged : Update → Shelved → Shelved → Type 0
HasChanged u old new = (object : ObjectId) (value : Option (List ℕ)) → cell_in new.items object value ≡ cell_with object value (cell_in old.items object value) (op.Update u)

pub with_act-cell-requires : goal.with_act-cell-requires
with_act-cell-requires c =
    let u = c.args.update in
    let range = subst (λ (s : Shelved). HasRange s u) (sym (c.change_found.ensures.others c.if-change_found.false)) c.requires.range in
    let items = c.change_found.new.self.items in
    let found = subst (λ v. HoldsAt (λ x. is_at u.object v x ≡ true) items c.in-Ok.spot.place) c.value_of.ensures c.in-Ok.ensures.found in
    subst (λ (cell : Cell). IsWithin (2 ^ 127) (cell.sum +ℤ amount_of u.act)) (cell_found u.object (value_of u.act) items c.in-Ok.spot.place c.at_near.result.now c.change_found.ensures.rise found c.at_near.ensures) range

pub returns-in-Ok-clause-cells : goal.returns-in-Ok-clause-cells
returns-in-Ok-clause-cells c =
    let u = c.args.update in
    let items = c.change_found.new.self.items in
    let same = c.change_found.ensures.others c.if-change_found.false in
    let found = subst (λ v. HoldsAt (λ x. is_at u.object v x ≡ true) items c.in-Ok.spot.place) c.value_of.ensures c.in-Ok.ensures.found in
    let is = cell_found u.object (value_of u.act) items c.in-Ok.spot.place c.at_near.result.now c.change_found.ensures.rise found c.at_near.ensures in
    subst (λ (s : Shelved). HasChanged u s c.replace.new.self.shelf) same
    (cell_changed items c.replace.new.self.shelf.items u c.with_act-cell.result (c.with_act-cell.ensures ∙ ap (with_act u.act) (sym is)) (λ object value.
    ap (λ xs. cell_in xs object value) c.replace.ensures.items
    ∙ cell_replaced_at u.object (value_of u.act) items c.in-Ok.spot.place c.at_near.result.now c.change_found.ensures.rise found c.at_near.ensures c.with_act-cell.result object value))

pub returns-in-Err-clause-cells : goal.returns-in-Err-clause-cells
returns-in-Err-clause-cells c =
    let u = c.args.update in
    let items = c.change_found.new.self.items in
    let cell = c.with_act-cell-in-Err.result in
    let item : Item = record { object = u.object; value = c.into_value-value.result; cell = cell } in
    let gap = subst (λ v. IsGapFor u.object v items c.in-Err.gap.spot.place) c.value_of.ensures c.in-Err.ensures.absent in
    let gap_of_item = subst (λ v. IsGapFor u.object v items c.in-Err.gap.spot.place) (sym c.into_value-value.ensures) gap in
    subst (λ (s : Shelved). HasChanged u s c.put.new.self.shelf) (c.change_found.ensures.others c.if-change_found.false)
    (cell_changed items c.put.new.self.shelf.items u cell (c.with_act-cell-in-Err.ensures ∙ ap (with_act u.act) (sym (cell_of_gap u.object (value_of u.act) items c.in-Err.gap.spot.place gap))) (λ object value.
    ap (λ xs. cell_in xs object value) c.put.ensures.items
    ∙ cell_put items c.in-Err.gap.spot.place item gap_of_item object value
    ∙ ap (λ v. if is_place u.object v object value then cell else cell_in items object value) c.into_value-value.ensures))

pub returns-in-Ok-clause-marked : goal.returns-in-Ok-clause-marked
returns-in-Ok-clause-marked c = λ off.
    let u = c.args.update in
    let items = c.change_found.new.self.items in
    let found = subst (λ v. HoldsAt (λ x. is_at u.object v x ≡ true) items c.in-Ok.spot.place) c.value_of.ensures c.in-Ok.ensures.found in
    let is = cell_found u.object (value_of u.act) items c.in-Ok.spot.place c.at_near.result.now c.change_found.ensures.rise found c.at_near.ensures in
    touched_at_found c.replace.new.self.shelf.touched items c.in-Ok.spot.place u.object (value_of u.act) found
    (c.replace.ensures.marked (put_off items c.replace.new.self.shelf.items u c.with_act-cell.result (c.with_act-cell.ensures ∙ ap (with_act u.act) (sym is))
    (subst (λ (s : Shelved). HasChanged u s c.replace.new.self.shelf) (sym (c.change_found.ensures.others c.if-change_found.false)) (returns-in-Ok-clause-cells c)) off))

pub returns-in-Err-clause-marked : goal.returns-in-Err-clause-marked
returns-in-Err-clause-marked c = λ off.
    let u = c.args.update in
    let items = c.change_found.new.self.items in
    let gap = subst (λ v. IsGapFor u.object v items c.in-Err.gap.spot.place) c.value_of.ensures c.in-Err.ensures.absent in
    let is = c.with_act-cell-in-Err.ensures ∙ ap (with_act u.act) (sym (cell_of_gap u.object (value_of u.act) items c.in-Err.gap.spot.place gap)) in
    ap (is_touched c.put.new.self.shelf.touched u.object) (sym c.into_value-value.ensures)
    ∙ c.put.ensures.marked (put_off items c.put.new.self.shelf.items u c.with_act-cell-in-Err.result is
    (subst (λ (s : Shelved). HasChanged u s c.put.new.self.shelf) (sym (c.change_found.ensures.others c.if-change_found.false)) (returns-in-Err-clause-cells c)) off)
