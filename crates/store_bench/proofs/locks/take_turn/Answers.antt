use Rattle.std.proofs.Common.{rules}
use Rattle.store_bench.proofs.locks.take_turn.Goals as goal

pub returns-in-Act : goal.returns-in-Act
returns-in-Act g c = let after = c.act.ensures.pass tt tt in search rules
