use Rattle.std.proofs.Common.{refl}
use Rattle.std.specs.Fmt.{digits}
use Rattle.worked_lines.proofs.worked.lines_are_read.Goals as goal

pub returns : goal.returns
unfolding digits
returns c = record { read = refl; store = refl }
