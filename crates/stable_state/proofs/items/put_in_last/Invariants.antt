use Rattle.std.proofs.Common.{◌≡◌, false, option_copied, drop}
use Rattle.std.specs.List.{list_any}
use Rattle.causal_model.specs.Acts.{acts_on}
use Rattle.causal_model.specs.CellSteps.{puts_in}
use Rattle.causal_model.specs.Log.{message_of}
use Rattle.stable_state.proofs.items.put_in_last.Given as goal

abbrev pub invariant-loop-place : goal.invariant-loop-place
invariant-loop-place l = list_any (λ e. acts_on l.object (puts_in (option_copied l.value)) (message_of e).op) (drop l.place l.entries) ≡ false
