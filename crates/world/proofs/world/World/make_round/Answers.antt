use Rattle.std.proofs.Common.{sym, ◌∙◌}
use Rattle.std.proofs.lemmas.Result.{err_from_is_err_and}
use Rattle.world_model.specs.Settling.{offers_made}
use Rattle.world.specs.Answers.{ShowsPlain}
use Rattle.world.proofs.Settles.{round_is_made, stops_in_round, size_of_shown}
use Rattle.world.proofs.Growing.{has_grown_twice}
use Rattle.world.proofs.world.World.make_round.Goals as goal

pub returns-in_err-moved-clause-made : goal.returns-in_err-moved-clause-made
returns-in_err-moved-clause-made c plain shows =
    let p = err_from_is_err_and c.from_residual.result c.from_residual.ensures.1 in
    rw p.1 (stops_in_round plain (ShowsPlain c.make_all_offers.new.self) (c.in_err-moved.ensures.made plain shows))

pub returns-clause-made : goal.returns-clause-made
returns-clause-made c plain shows =
    let offered = c.in_ok-moved.ensures.made plain shows in
    let size = sym (size_of_shown c.make_all_offers.new.self (offers_made plain).world offered.shows) ∙ c.in_ok-moved.ensures.members ∙ size_of_shown c.args.self.now plain shows in
    round_is_made plain c.in_ok-moved.moved c.make_beats.result (ShowsPlain c.make_all_offers.new.self) (ShowsPlain c.make_beats.new.self) size offered c.make_beats.ensures.made

pub returns-clause-grown : goal.returns-clause-grown
returns-clause-grown c = has_grown_twice c.args.self.now c.make_all_offers.new.self c.make_beats.new.self c.make_all_offers.ensures.grown c.make_beats.ensures.grown
