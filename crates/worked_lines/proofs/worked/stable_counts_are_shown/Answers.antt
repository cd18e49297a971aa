use Rattle.std.proofs.Common.{refl}
use Rattle.std.specs.Fmt.{digits}
use Rattle.worked_lines.proofs.worked.stable_counts_are_shown.Goals as goal

pub returns : goal.returns
unfolding digits
returns c = refl
