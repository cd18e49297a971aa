use Rattle.std.proofs.Common.{◌++◌, ap, ◌∙◌}
use Rattle.live_run.specs.Texts.{told_lines}
use Rattle.live_run.proofs.Texting.{replies_more}
use Rattle.live_run.proofs.text.put_replies.Goals as goal

pub loop-c-preserved : goal.loop-c-preserved
loop-c-preserved c =
    replies_more (λ ts. ts.items) c.loop-c.c c.args.told.now c.index-told-c.result c.args.out.now c.loop-c.out c.put_told.new.out c.loop-c-test.true c.index-told-c.is c.loop-c.invariant
    (c.in_ok-put_told.ensures.ok ∙ ap (λ ts. c.loop-c.out ++ told_lines c.loop-c.c 1 ts) c.as_slice.ensures.value)
