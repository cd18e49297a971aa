use Rattle.std.proofs.Common.{◌≡◌, ◌∷◌, ◌++◌, false, true, None, map, sym, ap, ◌∙◌, true≢false}
use Rattle.causal_model.specs.Journal.{step_note}
use Rattle.causal_model.specs.Receiving.{refusal_of}
use Rattle.causal_model.specs.declared.note.Note.TheVariants as notes
use Rattle.replica_node.specs.Nodes.{state_by}
use Rattle.replica_keeper.proofs.Replays.{replays_accepted}
use Rattle.replica_keeper.proofs.replay.replay_accepted.Goals as goal

pub accept-requires-clause-unrefused : goal.accept-requires-clause-unrefused
accept-requires-clause-unrefused c = λ s stands. sym (c.refusal.ensures s stands) ∙ c.in_default.is

pub returns-then-not-same-clause-replays : goal.returns-then-not-same-clause-replays
returns-then-not-same-clause-replays c =
    let node = c.args.node.now in
    let unrefused : refusal_of node.inner.w (state_by node.first node.journal.notes) c.args.message ≡ None = sym (c.refusal.ensures (state_by node.first node.journal.notes) node.stands) ∙ c.in_default.is in
    replays_accepted node node c.args.frame.now c.args.message c.requires.read false unrefused (sym c.if-not-same.true ∙ c.in_ok-same.ensures) (λ e. absurd (true≢false (sym e)))

pub returns-clause-replays : goal.returns-clause-replays
returns-clause-replays c =
    let node = c.args.node.now in
    let unrefused : refusal_of node.inner.w (state_by node.first node.journal.notes) c.args.message ≡ None = sym (c.refusal.ensures (state_by node.first node.journal.notes) node.stands) ∙ c.in_default.is in
    replays_accepted node c.accept.new.self c.args.frame.now c.args.message c.requires.read true unrefused (sym c.if-not-same.false ∙ c.in_ok-same.ensures)
    (λ _. c.in_ok-accept.ensures.noted ∙ ap (λ made. node.journal.notes ++ notes.Kept c.args.message ∷ map step_note made) c.in_ok-accept.ensures.steps)
