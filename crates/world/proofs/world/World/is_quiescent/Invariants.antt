use Rattle.std.proofs.Common.{◌≡◌, ℕ, ◌<◌}
use Rattle.world_model.specs.Showing.{seen_at}
use Rattle.world_model.specs.World.{PlainWorld}
use Rattle.world.specs.Answers.{ShowsPlain}
use Rattle.world.proofs.world.World.is_quiescent.Given as goal

abbrev pub invariant-loop-r : goal.invariant-loop-r
invariant-loop-r l = (plain : PlainWorld) → ShowsPlain l.self plain → (q : ℕ) → q < l.r → seen_at plain q ≡ seen_at plain 0
