use Rattle.std.proofs.Common.{arith}
use Rattle.workload.specs.Counts.{kept_of}
use Rattle.workload.specs.Summary.{word_at}
use Rattle.workload.proofs.Counting.{counted_next, kept-le}
use Rattle.workload.proofs.summary.first_words.Goals as goal

pub count_word-requires : goal.count_word-requires
count_word-requires c =
    omega (arith, kept-le (λ reply. word_at 0 reply.now) c.args.replies.now c.loop-reply.reply-index (kept_of c.loop-reply.counts) c.word_at.result.now c.loop-reply.invariant, c.well_formed)

pub loop-reply-preserved : goal.loop-reply-preserved
loop-reply-preserved c =
    counted_next (λ reply. word_at 0 reply.now) c.args.replies.now c.loop-reply.reply-index _ (kept_of c.loop-reply.counts) (kept_of c.count_word.new.counts) c.word_at.result.now
    c.loop-reply-test.true c.word_at.ensures c.loop-reply.invariant c.in_ok-count_word.ensures.this c.in_ok-count_word.ensures.others
