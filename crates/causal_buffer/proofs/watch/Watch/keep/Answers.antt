use Rattle.std.proofs.Common.{ap, arith}
use Rattle.op_base.specs.Timestamp.{entry}
use Rattle.causal_buffer.proofs.Watched.{put_is_watched}
use Rattle.causal_buffer.proofs.watch.Watch.keep.Goals as goal

pub returns-then-seq-at : goal.returns-then-seq-at
returns-then-seq-at c n m early is own numbered =
    put_is_watched n c.open.new.self m early (c.open.ensures.kept n early is) (λ _ closed. omega (arith, closed (omega (arith, c.open.ensures.from, own)), c.open.ensures.end, own))

pub returns-else-seq-at : goal.returns-else-seq-at
returns-else-seq-at c n m early is own numbered = put_is_watched n c.args.self.now m early is (λ next _. c.if-seq-at.false (omega (arith, next, numbered, c.at.ensures, ap (λ x. entry c.args.self.now.counts x) own)))
