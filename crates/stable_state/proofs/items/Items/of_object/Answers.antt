use Rattle.std.proofs.Common.{ap, ◌∙◌}
use Rattle.op_base.specs.Object.{same_object}
use Rattle.causal_model.specs.Items.{cell_in}
use Rattle.stable_state.proofs.Spans.{between_is_filter, cell_of_object}
use Rattle.stable_state.proofs.items.Items.of_object.Goals as goal

pub returns-clause-items : goal.returns-clause-items
returns-clause-items c = c.new.ensures ∙ between_is_filter (λ other value. same_object c.args.object.now other) c.args.self.now.shelf.items c.span-from.result.0 c.span-from.result.1 c.span-from.ensures.picked

pub returns-clause-cells : goal.returns-clause-cells
returns-clause-cells c = λ value.
    ap (λ items. cell_in items c.args.object.now value) c.new.ensures
    ∙ cell_of_object c.args.object.now c.args.self.now.shelf.items c.span-from.result.0 c.span-from.result.1 c.span-from.ensures.picked value
