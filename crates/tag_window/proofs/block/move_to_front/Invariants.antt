use Rattle.std.proofs.Common.{◌≡◌, ℕ, ◌+◌, ◌<◌, ◌≤◌, length, get_or, vec_capacity}
use Rattle.tag_window.specs.declared.held.Held.{Held}
use Rattle.tag_window.proofs.block.move_to_front.Given as goal

-- so many were moved, and the places from there on are as they were
abbrev pub invariant-loop-i : goal.invariant-loop-i
invariant-loop-i l = record {
  capacity : vec_capacity l.places ≡ vec_capacity l.initial.places;
  same : length l.places.items ≡ length l.initial.places.items;
  moved : (k : ℕ) (d : Held) → k < l.i → get_or l.places.items k d ≡ get_or l.initial.places.items (l.start + k) d;
  ahead : (k : ℕ) (d : Held) → l.i ≤ k → get_or l.places.items k d ≡ get_or l.initial.places.items k d;
}
