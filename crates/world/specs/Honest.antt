-- What a world's calls answer and leave where no frame was forged: where it shows an honest plain world.
use Rattle.std.specs.Prelude.{◌≡◌, ℕ, ◌<◌, Bool, true, false, []}
use Rattle.std.specs.List.{list_all}
use Rattle.honest_worlds.specs.Laws.{HaveSameEvents, AreBelowLimit}
use Rattle.causal_model.specs.declared.outcome.Receive.{Receive}
use Rattle.causal_model.specs.declared.outcome.Receive.TheVariants as receive
use Rattle.world_model.specs.Honest.{IsHonest}
use Rattle.world_model.specs.Settling.{is_delivery}
use Rattle.world_model.specs.Showing.{log_at}
use Rattle.world_model.specs.World.{PlainWorld, size_of}
use Rattle.world.specs.Answers.{ShowsPlain}
use Rattle.world_model.specs.declared.outcome.Given.{Given}
use Rattle.world_model.specs.declared.outcome.Given.TheVariants as given
use Rattle.world_model.specs.declared.outcome.Resent.{Resent}
use Rattle.world_model.specs.declared.outcome.Resent.TheVariants as resent
use Rattle.world.specs.declared.world.World.{World}

-- a world shows an honest plain world
abbrev pub ShowsHonest : World → Type 0
ShowsHonest world = (plain : PlainWorld) × ShowsPlain world plain × IsHonest plain

-- whether an answer is neither that a message is far nor has a step that drops one
abbrev pub is_fair : Receive → Bool
is_fair receive.Far = false
is_fair (receive.Took steps) = list_all is_delivery steps
is_fair answer = true

abbrev pub is_fair_given : Given → Bool
is_fair_given (given.Got answer) = is_fair answer
is_fair_given given.Unsent = true

abbrev pub is_fair_resent : Resent → Bool
is_fair_resent (resent.Took steps) = list_all is_delivery steps
is_fair_resent answer = true

-- a world shows one in which all replicas have the same messages, and where no member has reached the limit every log is empty
pub record IsQuiescent (plain : PlainWorld) : Type 0 where
  pub same : HaveSameEvents plain
  pub logs : AreBelowLimit plain → (r : ℕ) → r < size_of plain → log_at plain r ≡ []

abbrev pub ShowsQuiescent : World → Type 0
ShowsQuiescent world = (plain : PlainWorld) × ShowsPlain world plain × IsQuiescent plain
