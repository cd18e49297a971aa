use Rattle.std.proofs.Common.{◌≤◌, drop, length}
use Rattle.causal_model.specs.Parts.{is_in}
use Rattle.part_queries.specs.Finds.{is_put, is_taken, AreListed}
use Rattle.part_queries.specs.Headed.{founds}
use Rattle.part_queries.proofs.listing.listed.Given as goal

abbrev pub invariant-loop-place : goal.invariant-loop-place
invariant-loop-place g l = record {
  done : l.done ≤ length l.finds;
  listed : let items = g.V.ItemView.items l.items in
      AreListed l.object.kind (is_put l.object (drop l.place items) (founds (drop l.done l.finds))) (is_taken l.object (drop l.place items) (founds (drop l.done l.finds)))
      (λ v. is_in l.object.kind (is_put l.object items (founds l.finds) v) (is_taken l.object items (founds l.finds) v)) l.values.items;
}
