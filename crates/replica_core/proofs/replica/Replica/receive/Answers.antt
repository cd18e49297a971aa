use Rattle.std.proofs.Common.{sym, subst, ◌∙◌}
use Rattle.causal_model.specs.Follows.{Follows}
use Rattle.causal_model.specs.Receiving.{is_accepted, receive_rule}
use Rattle.causal_model.specs.declared.outcome.Receive.TheVariants as receive
use Rattle.replica_core.specs.Rules.{StandsFor}
use Rattle.replica_core.proofs.Bounds.{is_bounded}
use Rattle.replica_core.proofs.Receives.{no_refusal, accepted_follows, lacking_accepts}
use Rattle.replica_core.proofs.replica.Replica.receive.Goals as goal

pub returns-in-Some-clause-bounded : goal.returns-in-Some-clause-bounded
returns-in-Some-clause-bounded c = is_bounded _

pub returns-in-Ok-clause-answer : goal.returns-in-Ok-clause-answer
returns-in-Ok-clause-answer c =
    let r = c.args.self.now in
    let m = c.args.message in
    let none = no_refusal c.refusal.result c.in_default.not-Some in
    subst (λ a. Follows StandsFor receive.NoMemory is_accepted (receive_rule r.w m) r a c.accept.new.self) (sym c.accepted.ensures)
    (accepted_follows r m c.accept.new.self (λ s stands. sym none ∙ c.refusal.ensures s stands) c.in-Ok.steps c.in-Ok.ensures.steps)

pub returns-in-Err-clause-answer : goal.returns-in-Err-clause-answer
returns-in-Err-clause-answer c =
    let none = no_refusal c.refusal.result c.in_default.not-Some in
    lacking_accepts c.args.self.now c.args.message c.accept.new.self (λ s stands. sym none ∙ c.refusal.ensures s stands) c.in-Err.ensures.refused
