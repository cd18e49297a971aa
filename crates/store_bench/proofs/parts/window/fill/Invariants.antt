use Rattle.std.proofs.Common.{◌≡◌, ◌-◌, ◌<◌, ◌≤◌, length, get_or}
use Rattle.op_base.specs.Timestamp.{entry}
use Rattle.tag_window.specs.declared.held.Held.{Held}
use Rattle.tag_window.specs.Window.{held_of}
use Rattle.store_bench.proofs.parts.window.fill.Given as goal

abbrev pub invariant-loop-done : goal.invariant-loop-done
invariant-loop-done l = record {
  members : length l.window.held ≡ l.n;
  bound : l.window.w ≡ l.initial.window.w;
  count : length (held_of l.window l.origin) ≡ l.done;
  next : (last : Held) → 0 < length (held_of l.window l.origin) → entry (get_or (held_of l.window l.origin) (length (held_of l.window l.origin) - 1) last).tag l.origin ≡ l.done;
  last : length l.last ≡ l.n;
  held : l.held ≤ l.done;
}
