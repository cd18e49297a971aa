use Rattle.std.proofs.Common.{◌≡◌, ◌≤◌}
use Rattle.causal_model.specs.ListSteps.{had_seen}
use Rattle.list_type.specs.Heads.{head_of}
use Rattle.list_type.specs.Shown.{shown}
use Rattle.list_type.proofs.Taken.{IsMarking}
use Rattle.list_type.proofs.lists.Lists.mark_seen.Given as goal

abbrev pub invariant-loop : goal.invariant-loop
invariant-loop l = record {
  rows : l.self.rows ≡ l.fn.self.rows;
  marking : IsMarking (had_seen l.head.epoch (head_of l.head)) l.fn.self.chains.rows l.row l.self.chains.rows l.at l.counter;
  spare : (shown l.fn.self).spare ≤ (shown l.self).spare;
}
