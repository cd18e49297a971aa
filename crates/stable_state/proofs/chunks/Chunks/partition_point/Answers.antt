use Rattle.std.proofs.Common.{suc, List, ◌≡◌, ℕ, ◌+◌, ◌-◌, ◌<◌, ◌≤◌, [], length, take, get_or, ap, sym, subst, arith}
use Rattle.std.specs.Prelude.{true, false}
use Rattle.std.specs.List.Sorted.{IsPartitionPoint, IsPartitionedBy}
use Rattle.std.specs.List.{concat}
use Rattle.stable_state.proofs.Parting.{none_passes, point_is, part_parted, firsts_parted}
use Rattle.stable_state.proofs.Ends.{start_more, start_le}
use Rattle.stable_state.proofs.chunks.Chunks.partition_point.Goals as goal

pub returns-then-behind-eq0-clause-partitioned : goal.returns-then-behind-eq0-clause-partitioned
returns-then-behind-eq0-clause-partitioned g c =
    λ p computes parted.
    let parts = c.args.self.now.parts in
    let heads = c.begun-behind.ensures.partitioned p computes (firsts_parted p parts c.requires.some parted) in
    none_passes p parts c.requires.some parted (λ k less. heads.1 k [] (omega (arith, c.if-behind-eq0.true)) less)

-- a place in a chunk is one among all slots
bound : (parts : List (List ℕ)) (part : List ℕ) (k start r : ℕ) → k < length parts → part ≡ get_or parts k [] → start ≡ length (concat (take k parts)) → r ≤ length part → start + r ≤ length (concat parts)
bound parts part k start r l is begins le = omega (arith, begins, le, ap length is, start_more parts k l, start_le parts (suc k))

pub overflow_add-place : goal.overflow_add-place
overflow_add-place g c =
    omega (
      arith,
      c.begun-behind.ensures.few,
      bound c.args.self.now.parts c.part.result.now (c.begun-behind.result - 1) c.start.result c.passed.result
          (omega (arith, c.if-behind-eq0.false, c.begun-behind.ensures.bound)) c.part.ensures c.start.ensures c.passed.ensures.bound,
    )

pub returns-clause-bound : goal.returns-clause-bound
returns-clause-bound g c =
    bound c.args.self.now.parts c.part.result.now (c.begun-behind.result - 1) c.start.result c.passed.result
    (omega (arith, c.if-behind-eq0.false, c.begun-behind.ensures.bound)) c.part.ensures c.start.ensures c.passed.ensures.bound

pub returns-clause-partitioned : goal.returns-clause-partitioned
returns-clause-partitioned g c =
    λ p computes parted.
    let parts = c.args.self.now.parts in
    let q = c.begun-behind.result - 1 in
    let l : q < length parts = omega (arith, c.if-behind-eq0.false, c.begun-behind.ensures.bound) in
    let heads = c.begun-behind.ensures.partitioned p computes (firsts_parted p parts c.requires.some parted) in
    let first = heads.0 q [] (omega arith) (omega (arith, c.if-behind-eq0.false)) in
    let inner = c.passed.ensures.partitioned p computes (subst (IsPartitionedBy p) (sym c.part.ensures) (part_parted p parts c.requires.some q l parted)) in
    let r = c.passed.result in
    let at = point_is p parts c.requires.some q r parted l first (λ k above less. heads.1 k [] (omega (arith, above)) less) (omega (arith, c.passed.ensures.bound, ap length c.part.ensures))
    (subst (λ xs. IsPartitionPoint (λ slot. p slot ≡ true) (λ slot. p slot ≡ false) xs r) c.part.ensures inner) in
    subst (λ n. IsPartitionPoint (λ slot. p slot ≡ true) (λ slot. p slot ≡ false) (concat parts) (n + r)) (sym c.start.ensures) at
