use Rattle.std.proofs.Common.{◌≡◌, length, fold}
use Rattle.causal_model.specs.Counts.{members}
use Rattle.world_model.specs.Settling.{after_offer}
use Rattle.world_model.specs.World.{PlainWorld}
use Rattle.world.specs.Answers.{ShowsPlain, HasGrown}
use Rattle.world.specs.Settles.{round_at, StandsIn}
use Rattle.world.proofs.world.World.make_offers.Given as goal

abbrev pub invariant-loop-k : goal.invariant-loop-k
invariant-loop-k l = record {
  size : length l.self.nodes.items ≡ length l.initial.self.nodes.items;
  grown : HasGrown l.initial.self l.self;
  made : (plain : PlainWorld) → ShowsPlain l.initial.self plain → StandsIn (fold (after_offer l.r) (round_at plain l.initial.moved) (members l.k)) l.moved (ShowsPlain l.self);
}
