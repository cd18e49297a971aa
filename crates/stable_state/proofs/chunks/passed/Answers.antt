use Rattle.std.proofs.Common.{◌+◌, ◌/◌, ◌<◌, ◌∷◌, [], length, ap, sym, ◌∙◌, arith}
use Rattle.std.proofs.lemmas.List.{get_or_default}
use Rattle.stable_state.proofs.Parting.{narrowed_up, narrowed_down, narrowed_point}
use Rattle.stable_state.proofs.chunks.passed.Goals as goal

pub loop-from-init : goal.loop-from-init
loop-from-init g c = (omega arith, omega arith, λ p computes. (λ some. absurd (omega (arith, some)), λ less. absurd (omega (arith, less))))

pub bounds-slots-middle : goal.bounds-slots-middle
bounds-slots-middle g c = omega (arith, c.loop-from.invariant.1, c.loop-from-test.true)

pub loop-from-preserved-then-test : goal.loop-from-preserved-then-test
loop-from-preserved-then-test g c =
    let slots = c.args.slots.now in
    let middle = (c.loop-from.from + c.loop-from.to) / 2 in
    let within : middle < length slots = omega (arith, c.loop-from-test.true, c.loop-from.invariant.1) in
    let call = (g.met.P.FnMut.1.post_iff _ _ _).0 c.test.ensures in (
      omega (arith, c.loop-from-test.true),
      c.loop-from.invariant.1,
      λ p computes. narrowed_up p slots c.loop-from.from c.loop-from.to (c.loop-from.invariant.2 p computes) middle
          (λ d. ap p (get_or_default slots middle d 0 within) ∙ sym (computes.at (_ ∷ []) _ _ call.1).0 ∙ c.if-test.true),
    )

pub loop-from-preserved : goal.loop-from-preserved
loop-from-preserved g c =
    let slots = c.args.slots.now in
    let middle = (c.loop-from.from + c.loop-from.to) / 2 in
    let within : middle < length slots = omega (arith, c.loop-from-test.true, c.loop-from.invariant.1) in
    let call = (g.met.P.FnMut.1.post_iff _ _ _).0 c.test.ensures in (
      omega (arith, c.loop-from-test.true),
      omega (arith, within),
      λ p computes. narrowed_down p slots c.loop-from.from c.loop-from.to (c.loop-from.invariant.2 p computes) middle
          (λ d. ap p (get_or_default slots middle d 0 within) ∙ sym (computes.at (_ ∷ []) _ _ call.1).0 ∙ c.if-test.false),
    )

pub returns-clause-bound : goal.returns-clause-bound
returns-clause-bound g c = omega (arith, c.loop-from.invariant.0, c.loop-from.invariant.1)

pub returns-clause-partitioned : goal.returns-clause-partitioned
returns-clause-partitioned g c =
    λ p computes parted. narrowed_point p c.args.slots.now c.loop-from.from c.loop-from.to (c.loop-from.invariant.2 p computes) parted c.loop-from.invariant.1
    (omega (arith, c.loop-from.invariant.0, c.loop-from-test.false))
