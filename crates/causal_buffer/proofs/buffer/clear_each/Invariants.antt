use Rattle.std.proofs.Common.{◌≡◌, ℕ, ◌<◌, ◌≤◌, length, get_or}
use Rattle.causal_buffer.specs.Queue.{IsEmptied}
use Rattle.causal_buffer.specs.declared.queue.Queue.{Queue}
use Rattle.causal_buffer.proofs.buffer.clear_each.Given as goal

abbrev pub invariant-loop-member : goal.invariant-loop-member
invariant-loop-member l = record {
  same : length l.queues.items ≡ length l.initial.queues.items;
  empty : (k : ℕ) (q : Queue) → k < l.member → IsEmptied (get_or l.initial.queues.items k q) (get_or l.queues.items k q);
  ahead : (k : ℕ) (q : Queue) → l.member ≤ k → get_or l.queues.items k q ≡ get_or l.initial.queues.items k q;
}
