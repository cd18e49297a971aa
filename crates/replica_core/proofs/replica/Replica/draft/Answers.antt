use Rattle.std.proofs.Common.{IsTrue, inl, inr, refl, sym, ap, subst, ◌∙◌}
use Rattle.op_base.specs.declared.operation.Op.TheVariants as op
use Rattle.op_base.specs.declared.operation.Update.{Update}
use Rattle.causal_model.specs.Sending.{own_message, is_sent}
use Rattle.causal_model.specs.declared.outcome.Local.TheVariants as local
use Rattle.replica_core.specs.Rules.{fields_of}
use Rattle.replica_core.proofs.Sends.{sends_in_state, is_draft}
use Rattle.replica_core.proofs.replica.Replica.draft.Goals as goal

pub returns-in-Some-clause-answer : goal.returns-in-Some-clause-answer
returns-in-Some-clause-answer c = λ s stands. inl (c.told.ensures ∙ c.in-Some.ensures.some s c.args.update.now stands, stands)

pub returns-in_default-room-clause-answer : goal.returns-in_default-room-clause-answer
returns-in_default-room-clause-answer c = λ s stands. inr (refl, subst (λ a. IsTrue (is_sent a)) (c.in_default.ensures.none s c.args.update.now stands) refl, stands)

pub returns-clause-answer : goal.returns-clause-answer
returns-clause-answer c = λ s stands.
    let r = c.args.self.now in
    let made = c.next_message.ensures.message s stands ∙ ap (λ (u : Update). own_message r.n r.me s.history.present.messages (op.Update u)) c.copied-update.ensures in
    inl (ap local.Sent made ∙ c.in_default.ensures.none s c.args.update.now stands, stands)

pub returns-clause-draft : goal.returns-clause-draft
returns-clause-draft c = λ s stands.
    let r = c.args.self.now in
    let u = c.copied-update.result in
    let sent = ap local.Sent (c.next_message.ensures.message s stands) ∙ c.in_default.ensures.none s u stands ∙ sym (sends_in_state (fields_of r) s stands u) in
    is_draft r s (op.Update u) c.next_message.result c.next_message.ensures.op (sym sent) c.updates_are_valid.ensures
