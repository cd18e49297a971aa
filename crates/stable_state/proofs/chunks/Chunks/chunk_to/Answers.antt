use Rattle.std.proofs.Common.{◌≡◌, ◌<◌, ◌≤◌, length, true, false, ltb, ap, sym, subst, ◌∙◌, arith, rules}
use Rattle.std.specs.List.Sorted.{IsPartitionPoint, IsPartitionedBy}
use Rattle.std.specs.List.{concat}
use Rattle.std.proofs.lemmas.List.Sorted.{IsPartitionPoint-from_clause}
use Rattle.stable_state.specs.ChunkFields.{parts_of}
use Rattle.stable_state.specs.Chunks.{IsHome}
use Rattle.stable_state.proofs.Ends.{length_ends, ends_parted, home_is}
use Rattle.stable_state.proofs.chunks.Chunks.chunk_to.Goals as goal

pub returns : goal.returns
returns c =
    let s = c.self.inside in
    let parts = parts_of s.lists.items in
    let place = c.args.place in
    let is = c.deref.ensures.value ∙ c.self.invariant.ends in
    let parted = subst (IsPartitionedBy (λ end. ltb end place)) (sym is) (ends_parted parts place) in
    let point = IsPartitionPoint-from_clause (λ end. ltb end place) _ _ c.partition_point.ensures.partitioned parted (λ a r q k. search rules) in
    let bound : c.partition_point.result ≤ length parts = omega (arith, c.partition_point.ensures.bound, ap length is, length_ends 0 parts) in
    let some : 0 < length parts = omega (arith, c.requires.some, ap (λ v. length v.parts) c.self.view_is) in
    let inside : place ≤ length (concat parts) = omega (arith, c.requires.within, ap (λ v. length (concat v.parts)) c.self.view_is) in
    subst (λ ps. IsHome ps place c.partition_point.result) (ap (λ v. v.parts) c.self.view_is)
    (home_is parts place c.partition_point.result some inside bound (subst (λ ends. IsPartitionPoint (λ end. ltb end place ≡ true) (λ end. ltb end place ≡ false) ends c.partition_point.result) is point))
