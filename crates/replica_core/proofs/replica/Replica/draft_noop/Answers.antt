use Rattle.std.proofs.Common.{◌≡◌, true, false, refl, sym, ap, ◌∙◌, rules}
use Rattle.op_base.specs.declared.operation.Op.TheVariants as op
use Rattle.causal_model.specs.Sending.{own_message, beating}
use Rattle.causal_model.specs.State.{State}
use Rattle.causal_model.specs.declared.outcome.Beat.TheVariants as beat
use Rattle.replica_core.specs.Rules.{fields_of, StandsFor}
use Rattle.replica_core.proofs.Sends.{beats_in_state, beats_by_tests, is_draft, more_may_be_sent}
use Rattle.replica_core.proofs.replica.Replica.draft_noop.Goals as goal
use Rattle.replica_core.proofs.replica.Replica.draft_noop.Goals.{Else-has_ended}

-- where no test holds, the rule sends
beats : (c : Else-has_ended) → true ≡ c.args.self.now.due → (s : State) → StandsFor c.args.self.now s
    → beat.Sent (own_message c.args.self.now.n c.args.self.now.me s.history.present.messages op.NoOp) ≡ beating c.args.self.now.n c.args.self.now.w c.args.self.now.limit c.args.self.now.me s.history.present.messages
beats c is_due s stands =
    let r = c.args.self.now in
    beats_by_tests r.n r.w r.limit r.me s.history.present.messages false false (c.if-has_ended.ensures s stands) true (is_due ∙ stands.due) (c.if-is_held.ensures s stands)

pub returns-then-not-self-clause-answer : goal.returns-then-not-self-clause-answer
returns-then-not-self-clause-answer c = λ s stands.
    let r = c.args.self.now in
    let not_due : false ≡ r.due = search rules in
    beats_by_tests r.n r.w r.limit r.me s.history.present.messages _ _ refl false (not_due ∙ stands.due) refl ∙ beats_in_state (fields_of r) s stands

pub returns-then-is_held-clause-answer : goal.returns-then-is_held-clause-answer
returns-then-is_held-clause-answer c = λ s stands.
    let r = c.args.self.now in
    let is_due : true ≡ r.due = search rules in
    beats_by_tests r.n r.w r.limit r.me s.history.present.messages _ _ refl true (is_due ∙ stands.due) (c.if-is_held.ensures s stands) ∙ beats_in_state (fields_of r) s stands

pub returns-then-has_ended-clause-answer : goal.returns-then-has_ended-clause-answer
returns-then-has_ended-clause-answer c = λ s stands.
    let r = c.args.self.now in
    let is_due : true ≡ r.due = search rules in
    beats_by_tests r.n r.w r.limit r.me s.history.present.messages _ _ (c.if-has_ended.ensures s stands) true (is_due ∙ stands.due) (c.if-is_held.ensures s stands) ∙ beats_in_state (fields_of r) s stands

pub next_message-requires : goal.next_message-requires
next_message-requires c = λ s stands. more_may_be_sent (fields_of c.args.self.now) s stands (sym (c.if-has_ended.ensures s stands))

pub returns-clause-answer : goal.returns-clause-answer
returns-clause-answer c = λ s stands.
    let is_due : true ≡ c.args.self.now.due = search rules in
    ap beat.Sent (c.next_message.ensures.message s stands) ∙ beats (goal.at.returns-clause-answer c).Else-has_ended is_due s stands ∙ beats_in_state (fields_of c.args.self.now) s stands

pub returns-clause-draft : goal.returns-clause-draft
returns-clause-draft c = λ s stands.
    let is_due : true ≡ c.args.self.now.due = search rules in
    is_draft c.args.self.now s op.NoOp c.next_message.result c.next_message.ensures.op (sym (ap beat.Sent (c.next_message.ensures.message s stands) ∙ beats (goal.at.returns-clause-draft c).Else-has_ended is_due s stands)) refl
