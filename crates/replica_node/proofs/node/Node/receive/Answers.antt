use Rattle.std.proofs.Common.{rules, ◌≡◌, ◌++◌, true, None, sym, ap, ◌∙◌}
use Rattle.std.proofs.lemmas.Bool.{false≢true}
use Rattle.causal_model.specs.Journal.{receive_notes}
use Rattle.causal_model.specs.Receiving.{accepted, is_accepted, receive_by, receive_rule, refusal_of, steps, with_early}
use Rattle.causal_model.specs.declared.outcome.Receive.TheVariants as receive
use Rattle.causal_model.proofs.States.Outcomes.{notes_of_accepted, notes_of_refused, accepted_is_accepted}
use Rattle.replica_node.specs.Nodes.{state_by}
use Rattle.replica_node.proofs.Noted.{noted_follows, unnoted_follows, lacking_follows}
use Rattle.replica_node.proofs.node.Node.receive.Goals as goal

pub returns-in-Some-clause-answer : goal.returns-in-Some-clause-answer
returns-in-Some-clause-answer g c =
    let node = c.args.self.now in
    let notes = g.R.Recorder.notes node.journal in
    let s = state_by node.first notes in
    let m = c.args.message in
    let told = c.answer.ensures ∙ ap (λ o. (receive_by node.inner.w m s o).0) (c.in-Some.ensures s node.stands) in
    let none = ap (receive_notes m) c.answer.ensures ∙ notes_of_refused m c.in-Some.refusal in
    unnoted_follows receive.NoMemory is_accepted (receive_notes m) (receive_rule node.inner.w m) node.first notes _ c.answer.result told none (search rules)

pub returns-in-Ok-clause-answer : goal.returns-in-Ok-clause-answer
returns-in-Ok-clause-answer g c =
    let node = c.args.self.now in
    let notes = g.R.Recorder.notes node.journal in
    let s = state_by node.first notes in
    let m = c.args.message in
    let unrefused : refusal_of node.inner.w s m ≡ None = sym (c.refusal.ensures s node.stands) ∙ c.in_default.is in
    let told = c.accepted.ensures ∙ ap accepted c.in-Ok.ensures.steps ∙ sym (ap (λ o. (receive_by node.inner.w m s o).0) unrefused) in
    let noted = c.in-Ok.ensures.noted ∙ sym (ap (λ ns. notes ++ ns) (ap (receive_notes m) c.accepted.ensures ∙ notes_of_accepted m c.in-Ok.steps)) in
    noted_follows receive.NoMemory is_accepted (receive_notes m) (receive_rule node.inner.w m) node.first notes (g.R.Recorder.notes c.accept.new.self.journal) c.accepted.result told noted

pub returns-in-Ok-clause-refused : goal.returns-in-Ok-clause-refused
returns-in-Ok-clause-refused g c = λ refused. absurd (false≢true (sym refused ∙ ap is_accepted c.accepted.ensures ∙ accepted_is_accepted c.in-Ok.steps))

pub returns-in-Err-clause-answer : goal.returns-in-Err-clause-answer
returns-in-Err-clause-answer g c =
    let node = c.args.self.now in
    let notes = g.R.Recorder.notes node.journal in
    let s = state_by node.first notes in
    let m = c.args.message in
    let unrefused : refusal_of node.inner.w s m ≡ None = sym (c.refusal.ensures s node.stands) ∙ c.in_default.is in
    let accepts : is_accepted (receive_rule node.inner.w m s).0 ≡ true
    = ap (λ o. is_accepted (receive_by node.inner.w m s o).0) unrefused ∙ accepted_is_accepted (steps node.inner.w (with_early s m)).0 in
    lacking_follows receive.NoMemory is_accepted (receive_notes m) (receive_rule node.inner.w m) node.first notes (g.R.Recorder.notes c.accept.new.self.journal) accepts c.in-Err.ensures.kept
