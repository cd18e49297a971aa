use Rattle.std.proofs.Common.{sym, ap, ◌∙◌}
use Rattle.op_base.specs.declared.operation.Op.TheVariants as op
use Rattle.causal_model.specs.declared.outcome.Local.TheVariants as local
use Rattle.replica_core.specs.Rules.{fields_of}
use Rattle.replica_core.proofs.Sends.{sends_in_state, is_draft}
use Rattle.replica_core.proofs.replica.Replica.draft_of.Goals as goal

pub returns-in-Some-clause-answer : goal.returns-in-Some-clause-answer
returns-in-Some-clause-answer c = λ s stands. c.told.ensures ∙ c.in-Some.ensures.some s c.args.update stands

pub returns-clause-answer : goal.returns-clause-answer
returns-clause-answer c = λ s stands. ap local.Sent (c.next_message.ensures.message s stands) ∙ c.in_default.ensures.none s c.args.update stands

pub returns-clause-draft : goal.returns-clause-draft
returns-clause-draft c = λ s stands.
    let r = c.args.self.now in
    let sent = ap local.Sent (c.next_message.ensures.message s stands) ∙ c.in_default.ensures.none s c.args.update stands ∙ sym (sends_in_state (fields_of r) s stands c.args.update) in
    is_draft r s (op.Update c.args.update) c.next_message.result c.next_message.ensures.op (sym sent) c.updates_are_valid.ensures
