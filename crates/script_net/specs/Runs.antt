-- In which plain world a run stands.
use Rattle.std.specs.Prelude.{◌≡◌, true, false}
use Rattle.replica_keeper.specs.Worlds.{Shown}
use Rattle.world.specs.Answers.{ShowsPlain}
use Rattle.script_net.specs.Transcript.{AnyPlain, OfStore, OfKeep}
use Rattle.script_net.specs.declared.runner.AnyWorld.{AnyWorld}
use Rattle.script_net.specs.declared.runner.AnyWorld.TheVariants.{Store, Keep}
use Rattle.script_net.specs.declared.runner.Runner.{Runner}

-- a world shows the plain world of its kind
abbrev pub ShowsAny : AnyWorld → AnyPlain → Type 0
ShowsAny (Store world) (OfStore plain) = ShowsPlain world plain
ShowsAny (Keep world) (OfKeep keep) = Shown world keep
ShowsAny world plain = ⊥

-- a run goes on, and its world shows a plain world
pub record RunsIn (runner : Runner) (plain : AnyPlain) : Type 0 where
  pub goes_on : runner.ended ≡ false
  pub shows : ShowsAny runner.world plain

-- memory ran out, and the run has ended
abbrev pub HasEnded : Runner → Type 0
HasEnded runner = runner.ended ≡ true
