use Rattle.std.proofs.Common.{◌∷◌, ◌++◌, [], refl, sym, ◌∙◌, arith}
use Rattle.list_type.proofs.Places.{reached}
use Rattle.list_type.proofs.Walks.{walk_starts, walk_goes_on, walk_ends_last, walk_ends_before, walk_ends_full}
use Rattle.list_type.proofs.walk.past.Goals as goal

pub loop-init : goal.loop-init
loop-init g c = (c.requires.place, λ p test before after parted. walk_starts p c.args.chains.now.rows c.args.row before after c.args.ahead parted)

pub behind-requires : goal.behind-requires
behind-requires g c = c.loop.invariant.0

pub returns-in_default-clause-place : goal.returns-in_default-clause-place
returns-in_default-clause-place g c = c.loop.invariant.0

pub returns-in_default-clause-past : goal.returns-in_default-clause-past
returns-in_default-clause-past g c = λ p test before after parted.
    walk_ends_last p c.args.chains.now.rows c.args.row before after c.loop.at c.behind.result c.loop.counter c.in_default.is c.behind.ensures (c.loop.invariant.1 p test before after parted)

pub get-requires : goal.get-requires
get-requires g c =
    let place = c.loop.invariant.0 in
    let met = reached c.args.chains.now.rows c.args.row c.in-Some.slot c.loop.at c.behind.result (record { before = place.0; after = place.1; parted = place.2; next_is = c.behind.ensures place.0 place.1 place.2 }) c.in-Some.is in
    (c.args.row, met.before, met.value, met.after, met.stands)

pub returns-then-not-test-clause-place : goal.returns-then-not-test-clause-place
returns-then-not-test-clause-place g c = c.loop.invariant.0

pub returns-then-not-test-clause-past : goal.returns-then-not-test-clause-past
returns-then-not-test-clause-past g c = λ p test before after parted.
    let answer = test c.get.result.now c.test.result (record { shown = c.get.result; shows = refl; says = record { met = c.test.ensures } }) in
    walk_ends_before p c.args.chains.now.rows c.args.row before after c.loop.at c.behind.result c.loop.counter c.in-Some.slot c.get.result.now c.in-Some.is c.behind.ensures c.get.ensures (sym answer ∙ c.if-not-test.true)
    (c.loop.invariant.1 p test before after parted)

pub loop-preserved : goal.loop-preserved
loop-preserved g c =
    let place = c.loop.invariant.0 in
    let met = reached c.args.chains.now.rows c.args.row c.in-Some.slot c.loop.at c.behind.result (record { before = place.0; after = place.1; parted = place.2; next_is = c.behind.ensures place.0 place.1 place.2 }) c.in-Some.is in (
      (met.before ++ (c.in-Some.slot, met.value) ∷ [], met.after, met.behind),
      λ p test before after parted.
          let answer = test c.get.result.now c.test.result (record { shown = c.get.result; shows = refl; says = record { met = c.test.ensures } }) in
          walk_goes_on p c.args.chains.now.rows c.args.row before after c.loop.at c.behind.result c.loop.counter c.in-Some.slot c.get.result.now c.in-Some.is c.behind.ensures c.get.ensures (sym answer ∙ c.if-not-test.false)
          (c.loop.invariant.1 p test before after parted),
    )

pub returns-clause-place : goal.returns-clause-place
returns-clause-place g c = c.loop.invariant.0

pub returns-clause-past : goal.returns-clause-past
returns-clause-past g c = λ p test before after parted.
    walk_ends_full p c.args.chains.now.rows c.args.row before after c.loop.at c.loop.counter (omega (arith, c.loop-test.false, c.len-end.ensures)) (c.loop.invariant.1 p test before after parted)
