use Rattle.std.proofs.Common.{refl, inl}
use Rattle.causal_model.specs.Journal.{beat_notes}
use Rattle.causal_model.specs.Sending.{is_beat, beat_rule}
use Rattle.causal_model.specs.declared.outcome.Beat.TheVariants as beat
use Rattle.replica_node.proofs.Noted.{told_follows, unbeaten_notes_nothing}
use Rattle.replica_node.proofs.node.Node.beat.Goals as goal

pub returns-in-Err-clause-answer : goal.returns-in-Err-clause-answer
returns-in-Err-clause-answer g c =
    let node = c.args.self.now in
    let notes = g.R.Recorder.notes node.journal in
    told_follows beat.NoMemory is_beat beat_notes (beat_rule node.inner.w node.inner.limit) node.first notes notes node.inner c.in-Err.answer node.stands
    (λ s stands. inl (c.in-Err.ensures.answer s stands, stands)) (unbeaten_notes_nothing c.in-Err.answer c.in-Err.ensures.unsent) refl
