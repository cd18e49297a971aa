use Rattle.std.proofs.Common.{◌≡◌, ℕ, ◌<◌, ◌≤◌, length, get_or}
use Rattle.tag_window.specs.Queue.{Line, left_of}
use Rattle.tag_window.specs.Queues.{AreFirsts}
use Rattle.tag_window.proofs.dropping.drop_of_each.Given as goal

abbrev pub invariant-loop-x : goal.invariant-loop-x
invariant-loop-x l = record {
  same : length l.queues.items ≡ length l.initial.queues.items;
  gone : (x : ℕ) (q : Line) → x < l.x → get_or l.queues.items x q ≡ left_of l.stable (get_or l.initial.queues.items x q);
  ahead : (x : ℕ) (q : Line) → l.x ≤ x → get_or l.queues.items x q ≡ get_or l.initial.queues.items x q;
  firsts : AreFirsts l.firsts l.queues.items;
}
