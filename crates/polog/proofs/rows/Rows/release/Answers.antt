use Rattle.std.proofs.Common.{◌+◌, ◌-◌, subst, sym, arith}
use Rattle.polog.specs.Rows.{IsFreed}
use Rattle.polog.proofs.Freed.{freed-more}
use Rattle.polog.proofs.rows.Rows.release.Goals as goal

pub loop-at-preserved : goal.loop-at-preserved
loop-at-preserved c =
    let made = c.entry.ensures in
    record {
      freed = subst (IsFreed c.args.idle (c.loop-at.at + 1 - c.args.from) c.args.from (c.loop-at.at + 1) c.args.self.now) (sym c.set.ensures)
          (freed-more c.args.idle c.args.self.now c.entry.result made.origin made.tag made.object made.act c.args.from c.loop-at.at c.loop-at.self
          c.loop-at.auto.at (omega (arith, c.loop-at-test.true, c.requires.places)) c.loop-at.invariant.freed);
    }
