use Rattle.std.proofs.Common.{◌≡◌, ◌≤◌, ℕ, List, Some, length, map, take, vec_len, vec_capacity}
use Rattle.std.specs.List.{list_any}
use Rattle.causal_model.specs.Log.{message_of}
use Rattle.causal_model.specs.Parts.{has_logged, puts, takes}
use Rattle.part_queries.specs.Headed.{head_puts_in, head_takes_out}
use Rattle.part_queries.proofs.found.logged.Given as goal

abbrev pub invariant-loop-entry : goal.invariant-loop-entry
invariant-loop-entry l = record {
  len : vec_len l.finds ≤ l.entry-index;
  room : length l.entries ≤ vec_capacity l.finds;
  put : (v : List ℕ) → list_any (head_puts_in v) l.finds.items ≡ has_logged l.object (map message_of (take l.entry-index l.entries)) (puts (Some v));
  taken : (v : List ℕ) → list_any (head_takes_out v) l.finds.items ≡ has_logged l.object (map message_of (take l.entry-index l.entries)) (takes (Some v));
}
