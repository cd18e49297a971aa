use Rattle.std.proofs.Common.{map, [], ◌∷◌, ◌++◌, ap, sym, ◌∙◌, inl}
use Rattle.op_base.specs.declared.message.Message.{Message}
use Rattle.causal_model.specs.Journal.{beat_notes}
use Rattle.causal_model.specs.Sending.{is_beat, beat_rule}
use Rattle.causal_model.specs.declared.note.Note.TheVariants.{Sent}
use Rattle.causal_model.specs.declared.outcome.Beat.TheVariants as beat
use Rattle.world.specs.Shows.{state_of}
use Rattle.world.proofs.Sends.{unbeaten_is_none, draft_is_refused, draft_is_sent}
use Rattle.world.proofs.sending.send_noop.Goals as goal

pub returns-in-Err-clause-answer : goal.returns-in-Err-clause-answer
returns-in-Err-clause-answer c =
    let node = c.args.node.now in
    draft_is_refused beat.NoMemory is_beat node.first beat_notes (beat_rule node.inner.w node.inner.limit) node.journal.notes c.in-Err.answer
    (ap (map Sent) (unbeaten_is_none c.in-Err.answer c.in-Err.ensures.unsent)) (inl (c.in-Err.ensures.answer (state_of node) node.stands))

pub returns-in-Ok-commit-clause-answer : goal.returns-in-Ok-commit-clause-answer
returns-in-Ok-commit-clause-answer c =
    let node = c.args.node.now in
    let copied = c.in-Ok-copy.ensures.copy in
    draft_is_sent beat.NoMemory is_beat node.first beat_notes (beat_rule node.inner.w node.inner.limit) node.journal.notes (beat.Sent c.in-Ok-copy.sent) c.commit.new.node.journal.notes
    (ap (λ m. beat.Sent m) copied ∙ c.in-Ok.ensures.answer (state_of node) node.stands) (c.in-Ok-commit.ensures.noted ∙ ap (λ (m : Message). node.journal.notes ++ Sent m ∷ []) (sym copied))
