use Rattle.std.proofs.Common.{take}
use Rattle.list_type.specs.Removals.{AreJoined}
use Rattle.list_type.proofs.removals.Clears.read.Given as goal

abbrev pub invariant-loop-entry : goal.invariant-loop-entry
invariant-loop-entry l = AreJoined l.self l.epoch (take l.entry-index l.entries)
