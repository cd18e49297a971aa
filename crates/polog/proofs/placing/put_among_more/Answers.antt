use Rattle.std.proofs.Common.{subst, arith}
use Rattle.polog.specs.Rows.{IsFreed}
use Rattle.polog.proofs.Freed.{put-in-opened}
use Rattle.polog.proofs.placing.put_among_more.Goals as goal

pub returns-clause-placed : goal.returns-clause-placed
returns-clause-placed c =
    put-in-opened c.args.entry c.args.stamp.number c.min-many.result c.args.at c.args.rows.now c.open.new.self c.set.new.self (omega (arith, c.min-many.ensures, c.div_ceil.ensures, c.room.ensures, c.len.ensures, c.requires.room)) c.requires.place
    (subst (λ idle. IsFreed idle c.min-many.result c.args.at c.args.at c.args.rows.now c.open.new.self) c.of.ensures c.open.ensures) c.set.ensures
