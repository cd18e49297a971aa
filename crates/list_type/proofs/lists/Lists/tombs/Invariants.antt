use Rattle.std.proofs.Common.{◌≤◌, not, map, length}
use Rattle.std.specs.List.{filter}
use Rattle.causal_model.specs.ListSteps.{is_shown}
use Rattle.causal_model.specs.Log.{message_of}
use Rattle.list_type.proofs.Asked.{IsTold}
use Rattle.list_type.proofs.lists.Lists.tombs.Given as goal

abbrev pub invariant-loop : goal.invariant-loop
invariant-loop l = record {
  told : IsTold (λ kept. length (filter (λ e. not (is_shown l.object l.epoch (map message_of l.entries) e)) kept)) l.self.chains.rows l.row l.at l.counter l.count;
  few : l.count ≤ l.counter;
}
