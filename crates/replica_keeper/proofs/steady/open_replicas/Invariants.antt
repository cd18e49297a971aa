use Rattle.replica_keeper.specs.Called.{AreNew}
use Rattle.replica_keeper.proofs.steady.open_replicas.Given as goal

abbrev pub invariant-loop-me : goal.invariant-loop-me
invariant-loop-me l = AreNew l.n l.w l.limit l.me l.list.items
