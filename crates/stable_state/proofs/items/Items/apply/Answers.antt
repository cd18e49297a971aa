use Rattle.std.proofs.Common.{ap, sym, ◌∙◌}
use Rattle.op_base.specs.declared.operation.Op.TheVariants as op
use Rattle.causal_model.specs.CellSteps.{cell_with}
use Rattle.causal_model.specs.Log.{stripped_of}
use Rattle.stable_state.proofs.Moves.{moved_at_once, all_named, named_stay}
use Rattle.stable_state.proofs.items.Items.apply.Goals as goal

pub returns-clause-of : goal.returns-clause-of
returns-clause-of c = λ h m is of. record {
  cells = λ object value.
      c.change.ensures.cells object value
      ∙ ap (λ cell. cell_with object value cell (op.Update c.args.update)) (of.cells object value)
      ∙ sym (moved_at_once h m object value c.args.update is c.requires.counter);
  touched = named_stay c.args.self.now.shelf c.change.new.self.shelf c.args.update c.change.ensures.cells c.change.ensures.touched c.change.ensures.marked
      (stripped_of h m) (all_named h m c.args.self.now.shelf of.touched);
}
