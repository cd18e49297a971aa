use Rattle.std.proofs.Common.{ap, sym, arith}
use Rattle.std.specs.Prelude.{slice_index}
use Rattle.list_type.proofs.LinkedDeletions.{none_linked}
use Rattle.list_type.proofs.deletions.Deletions.take.Goals as goal

pub returns-then-entries-le1024 : goal.returns-then-entries-le1024
returns-then-entries-le1024 c =
    sym (none_linked c.args.self.now c.args.entries.now c.args.epoch c.args.id.now c.requires (omega (arith, ap (slice_index c.args.self.now.last) c.group_of.ensures.is)) (omega arith))
