use Rattle.std.proofs.Common.{◌∙◌}
use Rattle.workload.proofs.Lines.{lines_left}
use Rattle.workload.proofs.script.put_lines.Goals as goal

pub loop-line-preserved : goal.loop-line-preserved
loop-line-preserved c =
    let e = c.in_ok-put_line.ensures in
    let left = lines_left c.args.n c.args.count c.loop-line._line c.loop-line.draws.state c.loop-line.out c.loop-line-test.true in
    rw (e.text, e.state) (left ∙ c.loop-line.invariant)
