use Rattle.std.proofs.Common.{◌++◌, ◌∷◌, [], ap, refl, ◌∙◌}
use Rattle.op_base.specs.declared.operation.Op.TheVariants as op
use Rattle.op_base.specs.declared.operation.Update.{Update}
use Rattle.op_base.proofs.Updates.{same_update}
use Rattle.causal_model.specs.declared.note.Note.{Note}
use Rattle.replica_node.specs.Noting.{noted_as, message_of}
use Rattle.replica_node.proofs.noting.note_act.Goals as goal

pub returns-clause-noted : goal.returns-clause-noted
returns-clause-noted g c =
    let same = same_update _ c.args.update.now refl c.requires.act in
    c.note-2.ensures.noted
    ∙ ap (λ (note : Note). g.R.Recorder.notes c.args.journal.now ++ note ∷ []) (c.note.ensures ∙ ap (λ (u : Update). noted_as c.args.noted (message_of c.args.origin c.args.tag.now (op.Update u))) same)
