use Rattle.std.proofs.Common.{◌≡◌, length, fold, false}
use Rattle.causal_model.specs.Counts.{members}
use Rattle.world_model.specs.Settling.{after_offers}
use Rattle.world_model.specs.World.{PlainWorld}
use Rattle.world.specs.Answers.{ShowsPlain, HasGrown}
use Rattle.world.specs.Settles.{round_at, StandsIn}
use Rattle.world.proofs.world.World.make_all_offers.Given as goal

abbrev pub invariant-loop-r : goal.invariant-loop-r
invariant-loop-r l = record {
  size : length l.self.nodes.items ≡ length l.initial.self.nodes.items;
  grown : HasGrown l.initial.self l.self;
  made : (plain : PlainWorld) → ShowsPlain l.initial.self plain → StandsIn (fold after_offers (round_at plain false) (members l.r)) l.moved (ShowsPlain l.self);
}
