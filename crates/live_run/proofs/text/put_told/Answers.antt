use Rattle.live_run.proofs.Texting.{told_more}
use Rattle.live_run.proofs.text.put_told.Goals as goal

pub loop-i-preserved : goal.loop-i-preserved
loop-i-preserved c =
    told_more c.args.c c.loop-i.i c.args.told.now c.index-told-i.result c.args.out.now c.loop-i.out c.put_told_line.new.out c.loop-i-test.true c.index-told-i.is c.loop-i.invariant
    c.in_ok-put_told_line.ensures.ok
