use Rattle.std.proofs.Common.{refl}
use Rattle.std.specs.Fmt.{digits}
use Rattle.script_net.proofs.worked.replicas_are_stopped.Goals as goal

pub returns : goal.returns
unfolding digits
returns c = record { stopped = refl; store = refl }
