use Rattle.std.proofs.Common.{◌≡◌, ℕ, ◌+◌, ◌/◌, ◌<◌, ◌∷◌, [], List, Bool, get_or, length, ap, sym, ◌∙◌, arith}
use Rattle.std.proofs.lemmas.List.{get_or_default}
use Rattle.stable_state.specs.Chunks.{first_passes}
use Rattle.stable_state.proofs.Parting.{first_at, narrowed_up, narrowed_down, narrowed_point}
use Rattle.stable_state.proofs.chunks.Chunks.begun.Goals as goal

pub loop-from-init : goal.loop-from-init
loop-from-init g c = (omega arith, omega (arith, c.count-to.ensures.value), λ p computes. (λ some. absurd (omega (arith, some)), λ less. absurd (omega (arith, less, c.count-to.ensures.value))))

pub part-requires : goal.part-requires
part-requires g c = omega (arith, c.loop-from.invariant.1, c.loop-from-test.true)

-- what the test tells is told of the chunk in the middle
told : (p : ℕ → Bool) (parts : List (List ℕ)) (middle : ℕ) (part d : List ℕ) → middle < length parts → part ≡ get_or parts middle [] → 0 < length (get_or parts middle [])
    → first_passes p (get_or parts middle d) ≡ p (get_or part 0 0)
told p parts middle part d within is some =
    ap (first_passes p) (get_or_default parts middle d [] within) ∙ first_at p (get_or parts middle []) 0 some ∙ ap (λ xs. p (get_or xs 0 0)) (sym is)

pub loop-from-preserved-then-test : goal.loop-from-preserved-then-test
loop-from-preserved-then-test g c =
    let parts = c.args.self.now.parts in
    let middle = (c.loop-from.from + c.loop-from.to) / 2 in
    let within : middle < length parts = omega (arith, c.loop-from-test.true, c.loop-from.invariant.1) in
    let call = (g.met.P.FnMut.1.post_iff _ _ _).0 c.test.ensures in (
      omega (arith, c.loop-from-test.true),
      c.loop-from.invariant.1,
      λ p computes. narrowed_up (first_passes p) parts c.loop-from.from c.loop-from.to (c.loop-from.invariant.2 p computes) middle
          (λ d. told p parts middle c.part.result.now d within c.part.ensures (c.requires.some middle [] within) ∙ sym (computes.at (_ ∷ []) _ _ call.1).0 ∙ c.if-test.true),
    )

pub loop-from-preserved : goal.loop-from-preserved
loop-from-preserved g c =
    let parts = c.args.self.now.parts in
    let middle = (c.loop-from.from + c.loop-from.to) / 2 in
    let within : middle < length parts = omega (arith, c.loop-from-test.true, c.loop-from.invariant.1) in
    let call = (g.met.P.FnMut.1.post_iff _ _ _).0 c.test.ensures in (
      omega (arith, c.loop-from-test.true),
      omega (arith, within),
      λ p computes. narrowed_down (first_passes p) parts c.loop-from.from c.loop-from.to (c.loop-from.invariant.2 p computes) middle
          (λ d. told p parts middle c.part.result.now d within c.part.ensures (c.requires.some middle [] within) ∙ sym (computes.at (_ ∷ []) _ _ call.1).0 ∙ c.if-test.false),
    )

pub returns-clause-few : goal.returns-clause-few
returns-clause-few g c = omega (arith, c.count-to.ensures.few, c.count-to.ensures.slots)

pub returns-clause-bound : goal.returns-clause-bound
returns-clause-bound g c = omega (arith, c.loop-from.invariant.0, c.loop-from.invariant.1)

pub returns-clause-partitioned : goal.returns-clause-partitioned
returns-clause-partitioned g c =
    λ p computes parted. narrowed_point (first_passes p) c.args.self.now.parts c.loop-from.from c.loop-from.to (c.loop-from.invariant.2 p computes) parted c.loop-from.invariant.1
    (omega (arith, c.loop-from.invariant.0, c.loop-from-test.false))
