use Rattle.std.proofs.Common.{◌≡◌, ℕ, ◌+◌, ◌<◌, ◌≤◌, length, get_or, vec_capacity, Option}
use Rattle.op_base.specs.declared.message.Message.{Message}
use Rattle.causal_buffer.proofs.row.move_to_front.Given as goal

-- so many were moved, and the places from there on are as they were
abbrev pub invariant-loop-i : goal.invariant-loop-i
invariant-loop-i l = record {
  capacity : vec_capacity l.block ≡ vec_capacity l.initial.block;
  same : length l.block.items ≡ length l.initial.block.items;
  moved : (k : ℕ) (d : Option Message) → k < l.i → get_or l.block.items k d ≡ get_or l.initial.block.items (l.start + k) d;
  ahead : (k : ℕ) (d : Option Message) → l.start + l.i ≤ k → get_or l.block.items k d ≡ get_or l.initial.block.items k d;
}
