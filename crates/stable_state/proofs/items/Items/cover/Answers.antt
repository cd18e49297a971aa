use Rattle.std.proofs.Common.{ap, sym, subst, ◌∙◌, if◌then◌else◌}
use Rattle.op_base.specs.declared.operation.Op.TheVariants as op
use Rattle.causal_model.specs.CellSteps.{covers_place, cell_uncovered}
use Rattle.causal_model.specs.Items.{zero_cell, cell_in, Rise}
use Rattle.stable_state.specs.Picked.{is_place}
use Rattle.stable_state.proofs.Spans.{cell_without, rise_without}
use Rattle.stable_state.proofs.Moves.{covered_is_absorbed}
use Rattle.stable_state.proofs.items.Items.cover.Goals as goal

pub invariant_of-self : goal.invariant_of-self
invariant_of-self c = record { rise = c.empty.ensures.rise }

pub returns-then-comes_back-clause-cells : goal.returns-then-comes_back-clause-cells
returns-then-comes_back-clause-cells c = λ object value.
    c.empty.ensures.cells object value
    ∙ (λ i. if (ap (λ v. is_place c.args.update.now.object v object value) c.value_of.ensures ∙ sym (c.comes_back.ensures c.if-comes_back.true object value)) i then zero_cell else cell_in c.args.self.now.shelf.items object value)

pub returns-then-comes_back-clause-of : goal.returns-then-comes_back-clause-of
returns-then-comes_back-clause-of c = λ h m is of.
    covered_is_absorbed h m c.args.self.now.shelf c.empty.new.self of (λ object value.
    returns-then-comes_back-clause-cells c object value ∙ ap (λ o. cell_uncovered object value o (cell_in c.args.self.now.shelf.items object value)) (sym is))

pub invariant_of-self-in-Some : goal.invariant_of-self-in-Some
invariant_of-self-in-Some c = record {
  rise = subst Rise (sym c.remove_span.ensures.items) (rise_without (covers_place (op.Update c.args.update.now)) c.args.self.now.shelf.items _ _ c.in-Some.ensures c.args.self.now.rise);
}

pub returns-in-Some-clause-cells : goal.returns-in-Some-clause-cells
returns-in-Some-clause-cells c = λ object value.
    ap (λ items. cell_in items object value) c.remove_span.ensures.items
    ∙ cell_without (covers_place (op.Update c.args.update.now)) c.args.self.now.shelf.items _ _ c.in-Some.ensures object value

pub returns-in-Some-clause-of : goal.returns-in-Some-clause-of
returns-in-Some-clause-of c = λ h m is of.
    covered_is_absorbed h m c.args.self.now.shelf c.remove_span.new.self of (λ object value.
    returns-in-Some-clause-cells c object value ∙ ap (λ o. cell_uncovered object value o (cell_in c.args.self.now.shelf.items object value)) (sym is))

pub returns-in_default-clause-cells : goal.returns-in_default-clause-cells
returns-in_default-clause-cells c = λ object value.
    cell_without (covers_place (op.Update c.args.update.now)) c.args.self.now.shelf.items 0 0 c.in_default.ensures object value

pub returns-in_default-clause-of : goal.returns-in_default-clause-of
returns-in_default-clause-of c = λ h m is of.
    covered_is_absorbed h m c.args.self.now.shelf c.args.self.now.shelf of (λ object value.
    returns-in_default-clause-cells c object value ∙ ap (λ o. cell_uncovered object value o (cell_in c.args.self.now.shelf.items object value)) (sym is))
