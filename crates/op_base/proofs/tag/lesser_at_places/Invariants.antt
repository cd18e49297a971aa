use Rattle.std.proofs.Common.{◌≡◌, ℕ, ◌<◌, ◌≤◌, min, length, get_or}
use Rattle.op_base.proofs.tag.lesser_at_places.Given as goal

abbrev pub invariant-loop-x : goal.invariant-loop-x
invariant-loop-x l = record {
  len : length l.lesser ≡ 16;
  done : (k : ℕ) → k < l.x → get_or l.lesser k 0 ≡ min (get_or l.parts k 0) (get_or l.others k 0);
  rest : (k : ℕ) → l.x ≤ k → get_or l.lesser k 0 ≡ get_or l.parts k 0;
}
