use Rattle.std.specs.Prelude.{◌≡◌, ℕ, ◌<◌, ◌≤◌, vec_len, slice_index_or}
use Rattle.store_bench.specs.Passes.{IsIdle}
use Rattle.store_bench.proofs.locks.split_all.Given as goal

abbrev pub invariant-loop : goal.invariant-loop
invariant-loop l = (l.opener.lock ≡ l.lock) × (l.opener.out ≡ l.counter) × (vec_len l.passes ≡ l.counter) × (l.counter ≤ l.threads)
    × ((k : ℕ) (d : _) → k < vec_len l.passes → IsIdle l.lock (slice_index_or l.passes.items k d))
