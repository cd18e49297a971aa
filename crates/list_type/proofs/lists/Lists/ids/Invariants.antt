use Rattle.std.proofs.Common.{map}
use Rattle.std.specs.List.{filter}
use Rattle.causal_model.specs.ListSteps.{is_shown}
use Rattle.causal_model.specs.Log.{message_of}
use Rattle.list_type.proofs.Asked.{IsTold}
use Rattle.list_type.proofs.lists.Lists.ids.Given as goal

abbrev pub invariant-loop : goal.invariant-loop
invariant-loop l = IsTold (λ kept. map (λ e. e.id) (filter (is_shown l.object l.epoch (map message_of l.entries)) kept)) l.self.chains.rows l.row l.at l.counter l.ids
