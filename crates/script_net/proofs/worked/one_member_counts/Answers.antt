use Rattle.std.proofs.Common.{refl}
use Rattle.std.specs.Fmt.{digits}
use Rattle.script_net.proofs.worked.one_member_counts.Goals as goal

pub returns : goal.returns
unfolding digits
returns c = refl
