use Rattle.world_model.proofs.Regrouping.{refused_changes_nothing, changes_are_refused}
use Rattle.world_model.proofs.laws.refused_changes_leave_the_world.Goals as goal

pub returns : goal.returns
returns c = record { stays = refused_changes_nothing; causes = changes_are_refused }
