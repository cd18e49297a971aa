use Rattle.std.proofs.Common.{◌≡◌, length}
use Rattle.std.specs.Prelude.{nat_lt}
use Rattle.std.specs.List.{filter}
use Rattle.op_base.specs.Timestamp.{entry}
use Rattle.tag_window.specs.Queue.{IsSound}
use Rattle.tag_window.proofs.queue.Queue.drop_stable.Given as goal

abbrev pub invariant-loop-first : goal.invariant-loop-first
invariant-loop-first l = record {
  sound : IsSound (record { n = l.self-inside.n; origin = l.self-inside.origin; room = l.self-inside.room; held = l.self-inside.held.items }) l.self-inside.held.room l.self-inside.noops;
  members : l.self-inside.n ≡ l.initial.self-inside.n;
  origin : l.self-inside.origin ≡ l.initial.self-inside.origin;
  room : l.self-inside.room ≡ l.initial.self-inside.room;
  kept : filter (λ h. nat_lt l.count (entry h.tag l.self-inside.origin)) l.self-inside.held.items ≡ filter (λ h. nat_lt l.count (entry h.tag l.self-inside.origin)) l.initial.self-inside.held.items;
}

abbrev pub decreases-loop-first : goal.decreases-loop-first
decreases-loop-first l = length l.self-inside.held.items
