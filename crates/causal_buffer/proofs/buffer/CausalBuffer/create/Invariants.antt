use Rattle.std.proofs.Common.{◌≡◌, [], length}
use Rattle.std.specs.List.{flat_map}
use Rattle.causal_buffer.specs.Queue.{messages}
use Rattle.causal_buffer.specs.Queue.{AreKept}
use Rattle.causal_buffer.proofs.buffer.CausalBuffer.create.Given as goal

-- the queues so far are those of members, and empty
abbrev pub invariant-loop : goal.invariant-loop
invariant-loop l = record {
  count : length l.queues.items ≡ l.counter;
  kept : AreKept l.n l.w l.queues.items;
  none : flat_map messages l.queues.items ≡ [];
}
