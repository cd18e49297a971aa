use Rattle.std.proofs.Common.{refl}
use Rattle.std.specs.Fmt.{digits}
use Rattle.script_net.proofs.worked.members_change.Goals as goal

pub returns : goal.returns
unfolding digits
returns c = refl
