use Rattle.std.proofs.Common.{◌≡◌, [], ◌∷◌, ◌+◌, drop, ap, subst, arith}
use Rattle.std.proofs.lemmas.Bool.{both_ways}
use Rattle.std.proofs.lemmas.List.{drop_all}
use Rattle.part_queries.specs.Finds.{or_put, or_taken, AreRising, AreListed}
use Rattle.part_queries.specs.Headed.{founds}
use Rattle.part_queries.proofs.Finds.{or_none}
use Rattle.part_queries.proofs.NextValue.{finds_from, rising_later, listed_first}
use Rattle.part_queries.proofs.listing.put_finds.Goals as goal

pub loop-find-preserved : goal.loop-find-preserved
loop-find-preserved c =
    let finds = c.args.finds.now in
    let i = c.loop-find.find-index in
    let find = c.find-item.result in
    let rest = founds (drop (i + 1) finds) in
    let e : founds (drop i finds) ≡ find.found ∷ rest = ap founds (finds_from finds i find c.loop-find-test.true c.find-item.is) in
    record {
      rise = rising_later find.found rest (founds (drop i finds)) e c.loop-find.invariant.rise;
      listed = λ on off whole none none' start. listed_first c.args.kind on off whole find.found rest c.loop-find.values.items (subst AreRising e c.loop-find.invariant.rise)
          (λ v t. absurd (both_ways (on v) (none v) t)) (λ v t. absurd (both_ways (off v) (none' v) t)) c.add.new.values.items
          (subst (λ fs. AreListed c.args.kind (or_put on fs) (or_taken off fs) whole c.loop-find.values.items) e (c.loop-find.invariant.listed on off whole none none' start)) c.in_ok-add.ensures.items;
      room = omega (arith, c.loop-find.invariant.room, c.in_ok-add.ensures.len, c.in_ok-add.ensures.capacity, c.loop-find-test.true);
    }

pub returns : goal.returns
returns c = λ on off whole none none' start.
    let finds = c.args.finds.now in
    let empty = ap founds (drop_all c.loop-find.find-index finds c.loop-find-test.false) in
    subst (λ put. AreListed c.args.kind put off whole c.loop-find.values.items) (λ i v. or_none (on v) i)
    (subst (λ taken. AreListed c.args.kind (or_put on []) taken whole c.loop-find.values.items) (λ i v. or_none (off v) i)
    (subst (λ fs. AreListed c.args.kind (or_put on fs) (or_taken off fs) whole c.loop-find.values.items) empty (c.loop-find.invariant.listed on off whole none none' start)))
