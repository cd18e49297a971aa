use Rattle.std.proofs.Common.{◌≡◌, ◌⊎◌, ℕ, ◌+◌, ◌<◌, ◌≤◌, None, get_or}
use Rattle.slab.specs.Slab.{get, slab_len}
use Rattle.stable_state.proofs.shelf.empty_slots.Given as goal

abbrev pub invariant-loop-place : goal.invariant-loop-place
invariant-loop-place l = record {
  each : (slot : ℕ) → (get l.slots slot ≡ get l.initial.slots slot) ⊎ ((k : ℕ) × (l.from ≤ k) × (k < l.place) × (get_or l.order.items k slot ≡ slot) × (get l.slots slot ≡ None));
  len : slab_len l.slots + l.place ≡ slab_len l.initial.slots + l.from;
  capacity : l.slots.capacity ≡ l.initial.slots.capacity;
}
