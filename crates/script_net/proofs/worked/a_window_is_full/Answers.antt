use Rattle.std.proofs.Common.{refl}
use Rattle.std.specs.Fmt.{digits}
use Rattle.script_net.proofs.worked.a_window_is_full.Goals as goal

pub returns : goal.returns
unfolding digits
returns c = refl
