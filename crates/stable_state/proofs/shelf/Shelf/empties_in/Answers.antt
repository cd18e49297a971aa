use Rattle.std.proofs.Common.{◌≡◌, ℕ, get_or, ap, sym, ◌∙◌, arith, if◌then◌else◌}
use Rattle.std.proofs.lemmas.Bool.{cond-true, cond-false}
use Rattle.std.proofs.lemmas.Option.{get_or_from_slice_get, slice_get_within}
use Rattle.op_base.specs.declared.outcome.Item.{Item}
use Rattle.causal_model.specs.Items.{is_filled}
use Rattle.stable_state.specs.Filled.{empties}
use Rattle.stable_state.proofs.Filled.{empties-without, empties-more}
use Rattle.stable_state.proofs.shelf.Shelf.empties_in.Goals as goal
use Rattle.stable_state.proofs.shelf.Shelf.empties_in.Goals.{then-not-is_filled, else-not-is_filled}

pub loop-place-preserved : goal.loop-place-preserved
loop-place-preserved c =
    let items = c.args.self.now.items in
    let place = c.loop-place.place in
    let item = c.at_near.result.now in
    let before = c.loop-place.invariant in
    let at : get_or items place item ≡ item = get_or_from_slice_get items place item item c.at_near.ensures in
    let more = empties-more items c.args.from place item before.first (slice_get_within items place item c.at_near.ensures) in
    let one : ◌≡◌ {A = ℕ} (if is_filled (get_or items place item).cell then 0 else 1) (if c.is_filled.result then 0 else 1) = λ i. if (ap (λ (x : Item). is_filled x.cell) at ∙ sym c.is_filled.ensures) i then 0 else 1 in
    elim c.if-not-is_filled.branch [
      | then-not-is_filled w ↦
          let counts : ◌≡◌ {A = ℕ} (if c.is_filled.result then 0 else 1) 1 = cond-false c.is_filled.result 0 1 w.if-not-is_filled.true in
          record { first = omega (arith, before.first); counted = omega (arith, before.counted, w.count-is, more, one, counts); few = omega (arith, before.few, w.count-is) }
      | else-not-is_filled w ↦
          let counts : ◌≡◌ {A = ℕ} (if c.is_filled.result then 0 else 1) 0 = cond-true c.is_filled.result 0 1 w.if-not-is_filled.false in
          record { first = omega (arith, before.first); counted = omega (arith, before.counted, w.count-is, more, one, counts); few = omega (arith, before.few, w.count-is) }
    ]

pub returns-then-self-eq0 : goal.returns-then-self-eq0
returns-then-self-eq0 c = omega (arith, c.if-self-eq0.true, c.self.invariant.counted, ap (λ shelved. empties shelved.items) c.self.view_is, empties-without c.args.from c.args.to c.args.self.now.items c.requires.ordered c.requires.within)
