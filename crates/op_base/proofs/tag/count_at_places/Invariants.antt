use Rattle.std.proofs.Common.{◌≡◌, ◌+◌, ◌≤◌, drop}
use Rattle.op_base.specs.Timestamp.{count_above}
use Rattle.op_base.proofs.tag.count_at_places.Given as goal

abbrev pub invariant-loop-x : goal.invariant-loop-x
invariant-loop-x l = record {
  counted : l.above + count_above (drop l.x l.parts) (drop l.x l.others) ≡ count_above l.parts l.others;
  few : l.above ≤ l.x;
}
