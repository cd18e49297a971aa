use Rattle.std.proofs.Common.{sym, subst}
use Rattle.causal_model.specs.Items.{Rise}
use Rattle.stable_state.proofs.items.Items.put.Goals as goal

pub invariant_of-self : goal.invariant_of-self
invariant_of-self c = record { rise = subst Rise (sym c.insert.ensures.items) c.requires.rise }
