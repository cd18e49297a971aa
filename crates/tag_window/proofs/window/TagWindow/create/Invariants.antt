use Rattle.std.proofs.Common.{◌≡◌, ℕ, ◌<◌, [], length, get_or}
use Rattle.tag_window.specs.Queue.{Line}
use Rattle.tag_window.proofs.window.TagWindow.create.Given as goal

abbrev pub invariant-loop-origin : goal.invariant-loop-origin
invariant-loop-origin l = record {
  len : length l.queues.items ≡ l.origin;
  each : (x : ℕ) (q : Line) → x < l.origin → get_or l.queues.items x q ≡ record { n = l.n; origin = x; room = l.room; held = [] };
}
