use Rattle.std.proofs.Common.{◌≡◌, ◌++◌, map}
use Rattle.std.specs.Map.Iter.{deref_pair}
use Rattle.workload.specs.Summary.{ended, count_line}
use Rattle.workload.proofs.SortedCounts.{seen}
use Rattle.workload.proofs.summary.put_counts.Given as goal

abbrev pub invariant-loop-word : goal.invariant-loop-word
invariant-loop-word l = l.out ≡ l.fn.out ++ ended (map count_line (seen (map deref_pair l.yielded)))
