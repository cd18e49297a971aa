use Rattle.std.proofs.Common.{◌++◌, ◌∷◌, [], ap, ◌∙◌}
use Rattle.causal_model.specs.declared.note.Note.TheVariants.{Regroup}
use Rattle.replica_node.proofs.Regroups.{next_goes_on}
use Rattle.replica_node.proofs.node.Node.heir.Goals as goal

pub invariant_of-result : goal.invariant_of-result
invariant_of-result g c =
    let node = c.args.self.now in
    let next = c.args.next in
    let before = g.R.Recorder.notes node.journal in
    let noted = c.put.ensures.noted ∙ ap (λ (note : _). g.R.Recorder.notes c.args.recorder ++ note ∷ []) c.change_to.ensures ∙ ap (λ (notes : _). notes ++ Regroup next.epoch next.n next.me ∷ []) c.requires.same in
    let goes = next_goes_on node.first node.inner.w node.inner.limit before next c.requires.next node.legal (g.R.Recorder.notes c.put.new.journal) noted in
    record { counted = c.put.ensures.counted; legal = goes.legal; stands = goes.stands }
