use Rattle.std.proofs.Common.{◌≡◌, ℕ, ◌+◌, ◌≤◌, List, ◌++◌, length, take, vec_capacity}
use Rattle.slab.specs.Slab.{slab_len}
use Rattle.stable_state.specs.Slots.{AreCopied}
use Rattle.stable_state.proofs.shelf.copy_run.Given as goal

-- the items in the first slots are copied
abbrev pub invariant-loop-slot : goal.invariant-loop-slot
invariant-loop-slot l = record {
  copied : (order copied : List ℕ) → AreCopied l.from order l.initial.into copied → AreCopied l.from (order ++ take l.slot-index l.run) l.into (copied ++ l.slots.items);
  len : length l.slots.items ≡ l.slot-index;
  counted : slab_len l.into ≡ slab_len l.initial.into + l.slot-index;
  capacity : l.into.capacity ≡ l.initial.into.capacity;
  room : length l.run ≤ vec_capacity l.slots;
}
