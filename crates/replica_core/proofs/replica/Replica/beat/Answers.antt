use Rattle.std.proofs.Common.{IsTrue, fold, inl, inr, refl, ap, subst, ◌∙◌}
use Rattle.causal_model.specs.Sending.{beat_messages, is_beat}
use Rattle.causal_model.specs.State.{with_own}
use Rattle.causal_model.specs.declared.outcome.Beat.TheVariants as beat
use Rattle.replica_core.specs.Rules.{StandsFor}
use Rattle.replica_core.proofs.Bounds.{is_bounded}
use Rattle.replica_core.proofs.Stands.{unchanged_stands}
use Rattle.replica_core.proofs.replica.Replica.beat.Goals as goal

pub returns-in-Err-clause-bounded : goal.returns-in-Err-clause-bounded
returns-in-Err-clause-bounded c = is_bounded _

pub returns-in_default-clause-bounded : goal.returns-in_default-clause-bounded
returns-in_default-clause-bounded c = is_bounded _

pub returns-in-Ok-commit-clause-answer : goal.returns-in-Ok-commit-clause-answer
returns-in-Ok-commit-clause-answer c = λ s stands.
    let told = c.in-Ok.ensures.answer s stands in
    inl (ap beat.Sent c.in-Ok-copy.ensures.copy ∙ told, subst (λ a. StandsFor c.commit.new.self (fold with_own s (beat_messages a))) told (c.in-Ok-commit.ensures.stands s stands))

pub returns-in-Err-commit-clause-answer : goal.returns-in-Err-commit-clause-answer
returns-in-Err-commit-clause-answer c = λ s stands.
    inr (refl, subst (λ a. IsTrue (is_beat a)) (c.in-Ok.ensures.answer s stands) refl, unchanged_stands c.args.self.now c.commit.new.self s c.in-Err-commit.ensures.refused stands)
