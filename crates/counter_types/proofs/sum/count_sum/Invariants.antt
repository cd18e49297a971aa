use Rattle.std.proofs.Common.{◌≡◌, ◌*◌, ◌+◌, ◌^◌, map, take, None}
use Rattle.std.specs.Prelude.{◌+ℤ◌}
use Rattle.causal_model.specs.Items.{cell_in}
use Rattle.causal_model.specs.Log.{message_of}
use Rattle.causal_model.specs.Query.{total_of, IsWithin}
use Rattle.counter_types.proofs.sum.count_sum.Given as goal

abbrev pub invariant-loop-entry : goal.invariant-loop-entry
invariant-loop-entry g l = record {
  sum : l.sum ≡ (cell_in (g.V.ItemView.items l.fn.items) l.object None).sum +ℤ total_of l.object (map (λ m. m.op) (map message_of (take l.entry-index l.entries)));
  small : IsWithin (2 ^ 126 + l.entry-index * 2 ^ 32) l.sum;
}
