use Rattle.std.proofs.Common.{◌∙◌, refl, arith}
use Rattle.std.proofs.lemmas.Result.{err_from_is_err_and}
use Rattle.world_model.specs.Settling.{after_offer}
use Rattle.world_model.specs.World.{size_of}
use Rattle.world.specs.Answers.{ShowsPlain}
use Rattle.world.specs.Settles.{round_at}
use Rattle.world.proofs.Growing.{has_grown_none, has_grown_twice}
use Rattle.world.proofs.Settles.{one_more, over_all, stops_in_offers_to, size_of_shown}
use Rattle.world.proofs.world.World.make_offers.Goals as goal

pub loop-k-init : goal.loop-k-init
loop-k-init c = record { size = refl; grown = has_grown_none c.args.self.now; made = λ plain shows. record { moved_is = refl; shows = shows } }

pub loop-k-preserved : goal.loop-k-preserved
loop-k-preserved c = record {
  size = c.in_ok-moved.ensures.members ∙ c.loop-k.invariant.size;
  grown = has_grown_twice c.args.self.now c.loop-k.self c.make_offer.new.self c.loop-k.invariant.grown c.make_offer.ensures.grown;
  made = λ plain shows. one_more (after_offer c.args.r) (round_at plain c.args.moved) c.loop-k.k c.loop-k.moved c.in_ok-moved.moved (ShowsPlain c.loop-k.self) (ShowsPlain c.make_offer.new.self) (c.loop-k.invariant.made plain shows) c.in_ok-moved.ensures.made;
}

pub returns-in_err-moved-clause-made : goal.returns-in_err-moved-clause-made
returns-in_err-moved-clause-made c plain shows =
    let p = err_from_is_err_and c.from_residual.result c.from_residual.ensures.1 in
    rw p.1 (stops_in_offers_to (round_at plain c.args.moved) c.args.r c.loop-k.k c.loop-k.moved (ShowsPlain c.loop-k.self) (ShowsPlain c.make_offer.new.self) (c.loop-k.invariant.made plain shows) c.in_err-moved.ensures.made)

pub returns-clause-made : goal.returns-clause-made
returns-clause-made c plain shows =
    over_all (after_offer c.args.r) (round_at plain c.args.moved) c.loop-k.k (size_of plain) c.loop-k.moved (ShowsPlain c.loop-k.self) (omega (arith, size_of_shown c.args.self.now plain shows)) (c.loop-k.invariant.made plain shows)

pub returns-in_err-moved-clause-grown : goal.returns-in_err-moved-clause-grown
returns-in_err-moved-clause-grown c = has_grown_twice c.args.self.now c.loop-k.self c.make_offer.new.self c.loop-k.invariant.grown c.make_offer.ensures.grown
