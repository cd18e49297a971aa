use Rattle.std.proofs.Common.{ap, refl, sym, ◌∙◌}
use Rattle.op_base.specs.declared.operation.Op.TheVariants as op
use Rattle.causal_model.specs.CellSteps.{cell_with}
use Rattle.causal_model.specs.Log.{stripped_of, message_of}
use Rattle.stable_state.proofs.Moves.{absorbed_more, named_more}
use Rattle.stable_state.proofs.items.Items.absorb.Goals as goal

pub returns-clause-of : goal.returns-clause-of
returns-clause-of c = λ h m k is of. record {
  cells = λ object value.
      c.change.ensures.cells object value
      ∙ ap (λ cell. cell_with object value cell (op.Update c.args.entry.update)) (of.cells object value)
      ∙ sym (absorbed_more h m object value k (message_of c.args.entry) is);
  touched = named_more c.args.self.now.shelf c.change.new.self.shelf c.args.entry.update c.change.ensures.cells c.change.ensures.touched c.change.ensures.marked
      (stripped_of h m) k (message_of c.args.entry) is refl of.touched;
}
