use Rattle.std.proofs.Common.{◌≡◌, length}
use Rattle.world_model.specs.World.{PlainWorld}
use Rattle.world.specs.Answers.{ShowsPlain, HasGrown}
use Rattle.world.specs.Settles.{AreMade}
use Rattle.world.proofs.world.World.make_rounds.Given as goal

abbrev pub invariant-loop-round : goal.invariant-loop-round
invariant-loop-round l = record {
  size : length l.self.nodes.items ≡ length l.initial.self.nodes.items;
  grown : HasGrown l.initial.self l.self;
  made : (plain : PlainWorld) → ShowsPlain l.initial.self plain → AreMade plain l._round (ShowsPlain l.self);
}
