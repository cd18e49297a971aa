use Rattle.std.proofs.Common.{◌≡◌, ℕ, ◌<◌, ◌≤◌, max, true, slice_index, length}
use Rattle.list_type.specs.Heads.{head_of}
use Rattle.list_type.specs.Removals.{seen_below}
use Rattle.list_type.proofs.removals.Clears.join.Given as goal

abbrev pub invariant-loop-x : goal.invariant-loop-x
invariant-loop-x l = record {
  any : l.self.any ≡ true;
  before : (x : ℕ) → x < l.x → slice_index l.self.below x ≡ max (slice_index l.fn.self.below x) (seen_below (head_of l.head) x);
  behind : (x : ℕ) → l.x ≤ x → slice_index l.self.below x ≡ slice_index l.fn.self.below x;
  long : length l.self.below ≡ 16;
}
