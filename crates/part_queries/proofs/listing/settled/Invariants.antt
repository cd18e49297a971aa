use Rattle.std.proofs.Common.{◌≡◌, ◌≤◌, [], drop, length}
use Rattle.std.specs.Prelude.{vec_len, vec_capacity}
use Rattle.causal_model.specs.Parts.{is_in}
use Rattle.part_queries.specs.Finds.{is_put, is_taken, AreListed}
use Rattle.part_queries.proofs.listing.settled.Given as goal

abbrev pub invariant-loop-place : goal.invariant-loop-place
invariant-loop-place g l = record {
  listed : let items = g.V.ItemView.items l.items in
      AreListed l.object.kind (is_put l.object (drop l.place items) []) (is_taken l.object (drop l.place items) [])
      (λ v. is_in l.object.kind (is_put l.object items [] v) (is_taken l.object items [] v)) l.values.items;
  len : vec_len l.values ≤ l.place;
  room : vec_capacity l.values ≡ length (g.V.ItemView.items l.items);
}
