use Rattle.std.proofs.Common.{◌≡◌, IsTrue, inl, inr, refl, subst}
use Rattle.causal_model.specs.Sending.{is_sent}
use Rattle.causal_model.specs.declared.outcome.Local.TheVariants as local
use Rattle.replica_core.proofs.Bounds.{is_bounded}
use Rattle.replica_core.proofs.Stands.{unchanged_stands}
use Rattle.replica_core.proofs.replica.Replica.local.Goals as goal

pub returns-in-Err-clause-bounded : goal.returns-in-Err-clause-bounded
returns-in-Err-clause-bounded c = is_bounded _

pub returns-in_default-clause-bounded : goal.returns-in_default-clause-bounded
returns-in_default-clause-bounded c = is_bounded _

pub returns-in-Err-commit-clause-answer : goal.returns-in-Err-commit-clause-answer
returns-in-Err-commit-clause-answer c = λ s stands. elim (c.in-Ok.ensures.answer s stands) [
  | inl told ↦ inr (refl, subst (λ a. IsTrue (is_sent a)) told.0 refl, unchanged_stands c.args.self.now c.commit.new.self s c.in-Err-commit.ensures.refused stands)
  | inr other ↦ let never : local.Sent c.in-Ok.message ≡ local.NoMemory = other.0 in absurd (cc)
]
