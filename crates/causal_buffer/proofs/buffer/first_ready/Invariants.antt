use Rattle.std.proofs.Common.{◌≡◌, ℕ, length}
use Rattle.std.specs.List.{flat_map}
use Rattle.causal_buffer.specs.Queue.{messages, AreKept}
use Rattle.causal_buffer.specs.Watch.{IsWatch}
use Rattle.causal_buffer.proofs.buffer.first_ready.Given as goal

-- of the members so far each next message waits
abbrev pub invariant-loop-member : goal.invariant-loop-member
invariant-loop-member l = record {
  members : length l.queues.items ≡ length l.fn.queues.items;
  kept : (w : ℕ) → AreKept (length l.counts) w l.fn.queues.items → AreKept (length l.counts) w l.queues.items;
  same : flat_map messages l.queues.items ≡ flat_map messages l.fn.queues.items;
  watch : IsWatch (length l.counts) l.watch (flat_map messages l.fn.queues.items);
  counts : l.watch.counts ≡ l.counts;
  from : l.watch.from ≡ l.member;
  end : l.watch.end ≡ l.fn.watch.end;
}
