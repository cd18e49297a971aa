use Rattle.std.proofs.Common.{◌≡◌, sym, subst, ◌∙◌}
use Rattle.std.proofs.lemmas.Bool.{cond-true, cond-false}
use Rattle.causal_model.specs.Items.{is_filled, Rise}
use Rattle.stable_state.specs.Picked.{replaced}
use Rattle.stable_state.proofs.Changes.{rise_at}
use Rattle.stable_state.proofs.items.Items.replace.Goals as goal

pub invariant_of-self : goal.invariant_of-self
invariant_of-self c =
    let old = c.args.self.now in
    let is : c.set_cell.new.self.items ≡ replaced c.args.spot.place c.args.cell old.shelf.items = c.set_cell.ensures.items ∙ sym (cond-true (is_filled c.args.cell) _ _ (sym c.is_filled.ensures ∙ c.if-is_filled.true)) in
    record { rise = subst Rise (sym is) (rise_at old.shelf.items c.args.spot.place old.rise c.requires.within c.args.cell) }

pub invariant_of-self-else-is_filled : goal.invariant_of-self-else-is_filled
invariant_of-self-else-is_filled c =
    let old = c.args.self.now in
    let is : c.remove_span.new.self.items ≡ replaced c.args.spot.place c.args.cell old.shelf.items = c.remove_span.ensures.items ∙ sym (cond-false (is_filled c.args.cell) _ _ (sym c.is_filled.ensures ∙ c.if-is_filled.false)) in
    record { rise = subst Rise (sym is) (rise_at old.shelf.items c.args.spot.place old.rise c.requires.within c.args.cell) }
