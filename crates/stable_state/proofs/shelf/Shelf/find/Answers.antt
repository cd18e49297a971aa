use Rattle.std.proofs.Common.{ap, sym, subst, ◌∙◌, arith}
use Rattle.std.specs.Prelude.{option_copied}
use Rattle.std.proofs.lemmas.Option.{get_or_from_slice_get}
use Rattle.causal_model.specs.Items.{is_at}
use Rattle.stable_state.specs.Places.{IsGapFor}
use Rattle.stable_state.proofs.Places.{gap_is, gap_rises}
use Rattle.stable_state.proofs.shelf.Shelf.find.Goals as goal
use Rattle.stable_state.proofs.shelf.Shelf.find.Goals.{else-spot-len-via-then-spot-len+else-is_of, else-spot-len-via-else-spot-len}

pub returns-else-spot-len-clause-absent : goal.returns-else-spot-len-clause-absent
returns-else-spot-len-clause-absent c =
    let items = c.args.self.now.items in
    let sought = c.new-sought.result in
    let object = sought.object.now in
    let value = option_copied sought.value in
    let place = c.spot-spot.result.place in
    let gap : IsGapFor object value items place =
    gap_is object items c.len.ensures.rise value place c.spot-spot.ensures.within c.spot-spot.ensures.place (λ d within. elim c.else-spot-len.branch [
      | else-spot-len-via-then-spot-len+else-is_of w ↦ ap (is_at object value) (get_or_from_slice_get items place w.ranked_near.result.now d w.ranked_near.ensures) ∙ sym w.is_of.ensures ∙ w.if-is_of.false
      | else-spot-len-via-else-spot-len w ↦ absurd (omega (arith, within))
    ]) in
    subst (λ o. IsGapFor o (option_copied c.args.value) items place) c.new-sought.ensures.object (subst (λ v. IsGapFor object v items place) c.new-sought.ensures.value gap)

pub returns-else-spot-len-clause-rises : goal.returns-else-spot-len-clause-rises
returns-else-spot-len-clause-rises c =
    gap_rises c.args.object.now (option_copied c.args.value) c.args.self.now.items c.spot-spot.result.place c.len.ensures.rise (returns-else-spot-len-clause-absent c)
