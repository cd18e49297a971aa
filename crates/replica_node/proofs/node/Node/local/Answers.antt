use Rattle.std.proofs.Common.{refl}
use Rattle.causal_model.specs.Journal.{local_notes}
use Rattle.causal_model.specs.Sending.{is_sent, local_rule}
use Rattle.causal_model.specs.declared.outcome.Local.TheVariants as local
use Rattle.replica_node.proofs.Noted.{told_follows, unsent_notes_nothing}
use Rattle.replica_node.proofs.node.Node.local.Goals as goal

pub returns-in-Err-clause-answer : goal.returns-in-Err-clause-answer
returns-in-Err-clause-answer g c =
    let node = c.args.self.now in
    let notes = g.R.Recorder.notes node.journal in
    told_follows local.NoMemory is_sent local_notes (local_rule node.inner.w node.inner.limit c.args.update.now) node.first notes notes node.inner c.in-Err.answer node.stands c.in-Err.ensures.answer
    (unsent_notes_nothing c.in-Err.answer c.in-Err.ensures.unsent) refl
