use Rattle.std.proofs.Common.{◌≡◌, ◌-◌, ◌≤◌, length, take}
use Rattle.stable_state.specs.Slots.{AreCopied}
use Rattle.stable_state.proofs.shelf.copy_order.Given as goal

-- the items in the first slots are copied
abbrev pub invariant-loop-place : goal.invariant-loop-place
invariant-loop-place l = record {
  copied : AreCopied l.from (take l.place l.order.items) l.into l.copied.items;
  within : l.place ≤ length l.order.items;
  capacity : l.into.capacity ≡ l.initial.into.capacity;
}

abbrev pub decreases-loop-place : goal.decreases-loop-place
decreases-loop-place l = length l.order.items - l.place
