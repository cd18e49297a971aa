use Rattle.std.proofs.Common.{◌-◌}
use Rattle.polog.specs.Rows.{IsFreed}
use Rattle.polog.proofs.rows.Rows.release.Given as goal

abbrev pub invariant-loop-at : goal.invariant-loop-at
invariant-loop-at l = record {
  freed : IsFreed l.idle (l.at - l.from) l.from l.at l.fn.self l.self;
}
