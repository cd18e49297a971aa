use Rattle.std.proofs.Common.{◌≡◌, ◌<◌, ℕ, vec_len, slice_index_or}
use Rattle.std.specs.Vec.Iter.{into_iter_items, into_iter_len}
use Rattle.mailboxes.specs.Passes.{seen, IsOf}
use Rattle.thread_tests.proofs.mails.four_threads_lose_nothing_and_take_nothing_twice.Given as goal

abbrev pub invariant-loop-number : goal.invariant-loop-number
invariant-loop-number g l =
    IsOf l.mailbox l.first × ((seen l.first).number ≡ 0) × ((seen l.first).forks ≡ l.number)
    × ((k : ℕ) (d : _) → k < vec_len l.jobs → IsOf l.mailbox (slice_index_or l.jobs.items k d).pass)

abbrev pub invariant-loop-job : goal.invariant-loop-job
invariant-loop-job g l = let rest = l.job-iterator in
    IsOf l.mailbox l.first × ((seen l.first).number ≡ 0)
    × ((k : ℕ) (d : _) → k < into_iter_len rest → IsOf l.mailbox (slice_index_or (into_iter_items rest) k d).pass)
