use Rattle.polog.specs.Rows.{IsFreed}
use Rattle.polog.proofs.rows.Rows.open.Given as goal

abbrev pub invariant-loop : goal.invariant-loop
invariant-loop l = record {
  opened : IsFreed l.idle (l.counter) l.len l.len l.fn.self l.self;
}
