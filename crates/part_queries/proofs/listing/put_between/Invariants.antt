use Rattle.std.proofs.Common.{◌≡◌, ℕ, Bool, List, drop}
use Rattle.part_queries.specs.Finds.{or_put, or_taken, with_mark, AreRising, AreListed, IsBehind}
use Rattle.part_queries.specs.Headed.{founds}
use Rattle.part_queries.proofs.listing.put_between.Given as goal

abbrev pub invariant-loop-find : goal.invariant-loop-find
invariant-loop-find l = record {
  count : l.count ≡ l.find-index;
  rise : AreRising (founds (drop l.find-index l.finds));
  listed : (on off whole : List ℕ → Bool) → IsBehind l.own.value.now on → IsBehind l.own.value.now off
      → AreListed l.kind (or_put (with_mark l.own.value.now l.fn.own.marks.put on) (founds l.finds)) (or_taken (with_mark l.own.value.now l.fn.own.marks.taken off) (founds l.finds)) whole l.initial.values.items
      → AreListed l.kind (or_put (with_mark l.own.value.now l.marks.put on) (founds (drop l.find-index l.finds))) (or_taken (with_mark l.own.value.now l.marks.taken off) (founds (drop l.find-index l.finds))) whole l.values.items;
}
