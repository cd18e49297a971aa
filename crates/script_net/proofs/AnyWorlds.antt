-- What holds of each plain keep world that durable replicas show holds of each plain world that they show.
use Rattle.std.proofs.Common.{◌≡◌, subst}
use Rattle.replica_keeper.specs.Worlds.{Shown}
use Rattle.replica_keeper.specs.declared.keep_world.KeepWorld.{KeepWorld}
use Rattle.world_model.specs.Stops.{PlainKeep}
use Rattle.script_net.specs.Runs.{ShowsAny}
use Rattle.script_net.specs.Transcript.{AnyPlain, OfStore, OfKeep}
use Rattle.script_net.specs.declared.runner.AnyWorld.{AnyWorld}
use Rattle.script_net.specs.declared.runner.AnyWorld.TheVariants.{Keep}

pub of_keep : (world : AnyWorld) (w : KeepWorld) → world ≡ Keep w → (P : AnyPlain → Type 0) → ((keep : PlainKeep) → Shown w keep → P (OfKeep keep)) → (plain : AnyPlain) → ShowsAny world plain → P plain
of_keep world w is P holds (OfKeep keep) shows = holds keep (subst (λ it. ShowsAny it (OfKeep keep)) is shows)
of_keep world w is P holds (OfStore plain) shows = absurd (subst (λ it. ShowsAny it (OfStore plain)) is shows)
