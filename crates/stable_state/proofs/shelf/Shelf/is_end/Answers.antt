use Rattle.std.proofs.Common.{sym, ap, ◌∙◌}
use Rattle.std.proofs.lemmas.Bool.{not-true, not-false}
use Rattle.std.proofs.lemmas.Option.{get_or_from_slice_get}
use Rattle.stable_state.specs.Places.{is_up_to}
use Rattle.stable_state.proofs.shelf.Shelf.is_end.Goals as goal

pub returns-else-spot-len-clause-end : goal.returns-else-spot-len-clause-end
returns-else-spot-len-clause-end c = λ t there d.
    ap (is_up_to c.args.object.now) (get_or_from_slice_get c.args.self.now.items c.args.spot.place c.ranked_near.result.now d c.ranked_near.ensures) ∙ sym c.is_up_to.ensures ∙ not-true c.is_up_to.result t

pub returns-else-spot-len-clause-inside : goal.returns-else-spot-len-clause-inside
returns-else-spot-len-clause-inside c = λ t d.
    ap (is_up_to c.args.object.now) (get_or_from_slice_get c.args.self.now.items c.args.spot.place c.ranked_near.result.now d c.ranked_near.ensures) ∙ sym c.is_up_to.ensures ∙ not-false c.is_up_to.result t
