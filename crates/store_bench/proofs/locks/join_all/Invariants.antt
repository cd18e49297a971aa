use Rattle.std.specs.Prelude.{◌≡◌, ℕ, ◌<◌, slice_index_or}
use Rattle.std.specs.Vec.Iter.{into_iter_items, into_iter_len}
use Rattle.store_bench.specs.Passes.{IsIdle}
use Rattle.store_bench.proofs.locks.join_all.Given as goal

abbrev pub invariant-loop-pass : goal.invariant-loop-pass
invariant-loop-pass l = let rest = l.pass-iterator in
    (l.opener.lock ≡ l.lock) × (l.opener.out ≡ into_iter_len rest)
    × ((k : ℕ) (d : _) → k < into_iter_len rest → IsIdle l.lock (slice_index_or (into_iter_items rest) k d))
