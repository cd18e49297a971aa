use Rattle.std.proofs.Common.{◌∙◌, false, refl, arith}
use Rattle.std.proofs.lemmas.Result.{err_from_is_err_and}
use Rattle.world_model.specs.Settling.{after_offers}
use Rattle.world_model.specs.World.{size_of}
use Rattle.world.specs.Answers.{ShowsPlain}
use Rattle.world.specs.Settles.{round_at}
use Rattle.world.proofs.Growing.{has_grown_none, has_grown_twice}
use Rattle.world.proofs.Settles.{one_more, over_all, stops_in_offers, size_of_shown}
use Rattle.world.proofs.world.World.make_all_offers.Goals as goal

pub loop-r-init : goal.loop-r-init
loop-r-init c = record { size = refl; grown = has_grown_none c.args.self.now; made = λ plain shows. record { moved_is = refl; shows = shows } }

pub loop-r-preserved : goal.loop-r-preserved
loop-r-preserved c = record {
  size = c.in_ok-moved.ensures.members ∙ c.loop-r.invariant.size;
  grown = has_grown_twice c.args.self.now c.loop-r.self c.make_offers.new.self c.loop-r.invariant.grown c.make_offers.ensures.grown;
  made = λ plain shows. one_more after_offers (round_at plain false) c.loop-r.r c.loop-r.moved c.in_ok-moved.moved (ShowsPlain c.loop-r.self) (ShowsPlain c.make_offers.new.self) (c.loop-r.invariant.made plain shows) c.in_ok-moved.ensures.made;
}

pub returns-in_err-moved-clause-made : goal.returns-in_err-moved-clause-made
returns-in_err-moved-clause-made c plain shows =
    let p = err_from_is_err_and c.from_residual.result c.from_residual.ensures.1 in
    rw p.1 (stops_in_offers plain c.loop-r.r c.loop-r.moved (ShowsPlain c.loop-r.self) (ShowsPlain c.make_offers.new.self) (omega (arith, size_of_shown c.args.self.now plain shows)) (c.loop-r.invariant.made plain shows) c.in_err-moved.ensures.made)

pub returns-clause-made : goal.returns-clause-made
returns-clause-made c plain shows =
    over_all after_offers (round_at plain false) c.loop-r.r (size_of plain) c.loop-r.moved (ShowsPlain c.loop-r.self) (omega (arith, size_of_shown c.args.self.now plain shows)) (c.loop-r.invariant.made plain shows)

pub returns-in_err-moved-clause-grown : goal.returns-in_err-moved-clause-grown
returns-in_err-moved-clause-grown c = has_grown_twice c.args.self.now c.loop-r.self c.make_offers.new.self c.loop-r.invariant.grown c.make_offers.ensures.grown
