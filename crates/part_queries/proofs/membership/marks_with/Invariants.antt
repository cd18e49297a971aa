use Rattle.std.proofs.Common.{◌≡◌, ◌||◌, map, option_copied, take}
use Rattle.causal_model.specs.Log.{message_of}
use Rattle.causal_model.specs.Parts.{has_logged, puts, takes}
use Rattle.part_queries.proofs.membership.marks_with.Given as goal

abbrev pub invariant-loop-entry : goal.invariant-loop-entry
invariant-loop-entry l = record {
  put : l.marks.put ≡ (l.fn.cell.on || has_logged l.object (map message_of (take l.entry-index l.entries)) (puts (option_copied l.value)));
  taken : l.marks.taken ≡ (l.fn.cell.off || has_logged l.object (map message_of (take l.entry-index l.entries)) (takes (option_copied l.value)));
}
