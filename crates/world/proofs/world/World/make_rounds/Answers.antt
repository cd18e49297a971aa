use Rattle.std.proofs.Common.{◌∙◌, arith}
use Rattle.std.proofs.lemmas.Result.{err_from_is_err_and}
use Rattle.world.specs.Answers.{ShowsPlain}
use Rattle.world.proofs.Growing.{has_grown_twice}
use Rattle.world.proofs.Settles.{round_moves, round_is_last, rounds_are_all, stops_in_settling}
use Rattle.world.proofs.world.World.make_rounds.Goals as goal

pub returns-in_err-make_round-clause-some : goal.returns-in_err-make_round-clause-some
returns-in_err-make_round-clause-some c plain shows =
    let p = err_from_is_err_and c.from_residual.result c.from_residual.ensures.1 in
    rw p.1 (stops_in_settling plain c.loop-round._round (ShowsPlain c.loop-round.self) (ShowsPlain c.make_round.new.self) (c.loop-round.invariant.made plain shows) c.in_err-make_round.ensures.made)

pub returns-then-not-branch-clause-made : goal.returns-then-not-branch-clause-made
returns-then-not-branch-clause-made c plain shows =
    round_is_last plain c.loop-round._round c.in_ok-make_round.field-0 (ShowsPlain c.loop-round.self) (ShowsPlain c.make_round.new.self) c.if-not-branch.true (omega (arith, c.most_rounds-most.ensures plain shows))
    (c.loop-round.invariant.made plain shows) c.in_ok-make_round.ensures.made

pub loop-round-preserved : goal.loop-round-preserved
loop-round-preserved c = record {
  size = c.in_ok-make_round.ensures.members ∙ c.loop-round.invariant.size;
  grown = has_grown_twice c.args.self.now c.loop-round.self c.make_round.new.self c.loop-round.invariant.grown c.make_round.ensures.grown;
  made = λ plain shows.
      round_moves plain c.loop-round._round c.in_ok-make_round.field-0 (ShowsPlain c.loop-round.self) (ShowsPlain c.make_round.new.self) c.if-not-branch.false (c.loop-round.invariant.made plain shows) c.in_ok-make_round.ensures.made;
}

pub returns-clause-made : goal.returns-clause-made
returns-clause-made c plain shows = rounds_are_all plain c.loop-round._round (ShowsPlain c.loop-round.self) (omega (arith, c.most_rounds-most.ensures plain shows)) (c.loop-round.invariant.made plain shows)

pub returns-in_err-make_round-clause-grown : goal.returns-in_err-make_round-clause-grown
returns-in_err-make_round-clause-grown c = has_grown_twice c.args.self.now c.loop-round.self c.make_round.new.self c.loop-round.invariant.grown c.make_round.ensures.grown

pub returns-then-not-branch-clause-grown : goal.returns-then-not-branch-clause-grown
returns-then-not-branch-clause-grown c = has_grown_twice c.args.self.now c.loop-round.self c.make_round.new.self c.loop-round.invariant.grown c.make_round.ensures.grown
