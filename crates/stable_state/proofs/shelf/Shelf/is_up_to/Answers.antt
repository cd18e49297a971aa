use Rattle.std.proofs.Common.{sym, ap, ◌∙◌}
use Rattle.std.specs.Prelude.{option_copied}
use Rattle.std.proofs.lemmas.Bool.{not-true, not-false}
use Rattle.std.proofs.lemmas.Option.{get_or_from_slice_get}
use Rattle.stable_state.specs.Places.{is_before}
use Rattle.stable_state.proofs.shelf.Shelf.is_up_to.Goals as goal

pub returns-else-spot-len-clause-up_to : goal.returns-else-spot-len-clause-up_to
returns-else-spot-len-clause-up_to c = λ t there d.
    let sought = c.args.sought.now in
    ap (is_before sought.object.now (option_copied sought.value)) (get_or_from_slice_get c.args.self.now.items c.args.spot.place c.ranked_near.result.now d c.ranked_near.ensures)
    ∙ sym c.is_before.ensures ∙ not-true c.is_before.result t

pub returns-else-spot-len-clause-before : goal.returns-else-spot-len-clause-before
returns-else-spot-len-clause-before c = λ t d.
    let sought = c.args.sought.now in
    ap (is_before sought.object.now (option_copied sought.value)) (get_or_from_slice_get c.args.self.now.items c.args.spot.place c.ranked_near.result.now d c.ranked_near.ensures)
    ∙ sym c.is_before.ensures ∙ not-false c.is_before.result t
