use Rattle.std.proofs.Common.{◌≡◌, ◌++◌, replicate, None, vec_capacity}
use Rattle.causal_buffer.proofs.row.put_behind.Given as goal

abbrev pub invariant-loop : goal.invariant-loop
invariant-loop l = record {
  made : l.block.items ≡ l.initial.block.items ++ replicate l.counter None;
  capacity : vec_capacity l.block ≡ vec_capacity l.initial.block;
}
