use Rattle.std.proofs.Common.{sym, ap, subst}
use Rattle.causal_model.specs.State.{with_own}
use Rattle.causal_model.specs.States.{IsState}
use Rattle.causal_model.proofs.States.States.{start_is_state, step_keeps_state, accept_keeps_state, own_keeps_state, own_makes_none_deliverable, regroup_keeps_state}
use Rattle.causal_model.proofs.laws.states.calls_keep_states.Goals as goal

pub returns-clause-start : goal.returns-clause-start
returns-clause-start c = start_is_state

pub returns-clause-step : goal.returns-clause-step
returns-clause-step c = step_keeps_state

pub returns-clause-accept : goal.returns-clause-accept
returns-clause-accept c = accept_keeps_state

pub returns-clause-own : goal.returns-clause-own
returns-clause-own c = λ w limit s o m is e room valid below.
    (subst (λ own. IsState w limit (with_own s own)) (sym e) (own_keeps_state w limit s o is room valid below), own_makes_none_deliverable w limit s o is m (ap (λ own. own.origin) e))

pub returns-clause-regroup : goal.returns-clause-regroup
returns-clause-regroup c = regroup_keeps_state
