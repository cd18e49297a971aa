use Rattle.std.proofs.Common.{◌+◌, ◌-◌, ◌≤◌, ℕ, Bool, List, drop, length, vec_len, vec_capacity}
use Rattle.part_queries.specs.Finds.{or_put, or_taken, AreRising, AreListed, AreNone}
use Rattle.part_queries.specs.Headed.{founds}
use Rattle.part_queries.proofs.listing.put_finds.Given as goal

abbrev pub invariant-loop-find : goal.invariant-loop-find
invariant-loop-find l = record {
  rise : AreRising (founds (drop l.find-index l.finds));
  listed : (on off whole : List ℕ → Bool) → AreNone on → AreNone off
      → AreListed l.kind (or_put on (founds l.finds)) (or_taken off (founds l.finds)) whole l.fn.values.items
      → AreListed l.kind (or_put on (founds (drop l.find-index l.finds))) (or_taken off (founds (drop l.find-index l.finds))) whole l.values.items;
  room : vec_len l.values + (length l.finds - l.find-index) ≤ vec_capacity l.values;
}
