use Rattle.std.proofs.Common.{◌≡◌, ◌<◌, ℕ, vec_len, slice_index_or}
use Rattle.mailboxes.specs.Passes.{seen, IsOf}
use Rattle.store_bench.proofs.mails.measure.Given as goal

abbrev pub invariant-loop : goal.invariant-loop
invariant-loop g l =
    IsOf l.mailbox l.first × ((seen l.first).number ≡ 0) × ((seen l.first).forks ≡ l.counter)
    × ((k : ℕ) (d : _) → k < vec_len l.passes → IsOf l.mailbox (slice_index_or l.passes.items k d))
