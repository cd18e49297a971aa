use Rattle.std.proofs.Common.{◌≡◌, ℕ, ◌<◌, ◌≤◌, [], length, get_or}
use Rattle.tag_window.specs.Queue.{Line}
use Rattle.tag_window.proofs.dropping.clear_each.Given as goal

abbrev pub invariant-loop-x : goal.invariant-loop-x
invariant-loop-x l = record {
  same : length l.queues.items ≡ length l.initial.queues.items;
  empty : (x : ℕ) (q : Line) → x < l.x → get_or l.queues.items x q ≡ record (get_or l.initial.queues.items x q) { held = [] };
  ahead : (x : ℕ) (q : Line) → l.x ≤ x → get_or l.queues.items x q ≡ get_or l.initial.queues.items x q;
}
