use Rattle.std.proofs.Common.{◌≡◌, ◌+◌, ◌-◌, ◌<◌, get_or, inl, inr, ap, ◌∙◌, arith}
use Rattle.std.proofs.lemmas.List.Edits.{length-between, get_or-between}
use Rattle.stable_state.proofs.shelf.empty_slots.Goals as goal

pub returns-clause-each : goal.returns-clause-each
returns-clause-each c =
    λ slot.
    let order = c.args.order.now.items in
    let from = c.args.from in
    let to = c.args.to in
    elim (c.loop-place.invariant.each slot) [
      | inl same ↦ inl same
      | inr gone ↦
          let k = gone.0 in
          let below : k < to = omega (arith, gone.2, c.loop-place.auto, c.requires.ordered) in
          let at : from + (k - from) ≡ k = omega (arith, gone.1) in
          inr ((k - from, omega (arith, gone.1, below, length-between order from to c.requires.within), get_or-between order from to (k - from) slot (omega (arith, gone.1, below)) ∙ ap (λ n. get_or order n slot) at ∙ gone.3), gone.4)
    ]
