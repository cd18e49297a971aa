use Rattle.std.proofs.Common.{map, ap, sym, ◌∙◌}
use Rattle.std.proofs.lemmas.Simd.{map-map}
use Rattle.workload.specs.Summary.{word_at, counts_of}
use Rattle.workload.proofs.SortedCounts.{sorted_counts}
use Rattle.workload.proofs.summary.counts_of.Goals as goal

pub returns : goal.returns
returns c =
    let sorted = c.in_ok-sort_keys.ensures in
    sorted_counts (map (λ reply. word_at 0 reply.now) c.args.replies.now) c.sort_keys.new.self.entries
    (λ word. sorted.reordered.2 (record { ref_ptr = (0, 0); now = word }) ∙ c.in_ok-counts.ensures word) sorted.unique sorted.sorted
    ∙ ap counts_of (sym (map-map (word_at 0) (λ reply. reply.now) c.args.replies.now))
