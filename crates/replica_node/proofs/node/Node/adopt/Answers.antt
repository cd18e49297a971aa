use Rattle.std.proofs.Common.{◌++◌, ◌∷◌, [], ap, ◌∙◌}
use Rattle.replica_node.proofs.Regroups.{next_goes_on}
use Rattle.replica_node.proofs.node.Node.adopt.Goals as goal

pub invariant_of-self : goal.invariant_of-self
invariant_of-self g c =
    let node = c.args.self.now in
    let before = g.R.Recorder.notes node.journal in
    let goes = next_goes_on node.first node.inner.w node.inner.limit before c.args.next c.requires.next node.legal (g.R.Recorder.notes c.put.new.journal) (c.put.ensures.noted ∙ ap (λ (note : _). before ++ note ∷ []) c.change_to.ensures) in
    record { counted = c.put.ensures.counted; legal = goes.legal; stands = goes.stands }
