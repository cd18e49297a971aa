use Rattle.std.proofs.Common.{◌≡◌, ℕ, List, take, map}
use Rattle.workload.specs.Counts.{kept_of, count_in}
use Rattle.workload.specs.Summary.{word_at}
use Rattle.workload.proofs.summary.first_words.Given as goal

abbrev pub invariant-loop-reply : goal.invariant-loop-reply
invariant-loop-reply l = (word : List ℕ) → kept_of l.counts word ≡ count_in (map (λ reply. word_at 0 reply.now) (take l.reply-index l.replies)) word
