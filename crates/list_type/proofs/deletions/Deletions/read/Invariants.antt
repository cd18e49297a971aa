use Rattle.list_type.specs.Deletions.{AreLinked}
use Rattle.list_type.proofs.deletions.Deletions.read.Given as goal

abbrev pub invariant-loop-k : goal.invariant-loop-k
invariant-loop-k l = AreLinked l.self l.entries l.k
