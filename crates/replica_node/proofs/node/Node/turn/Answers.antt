use Rattle.std.proofs.Common.{◌++◌, ◌∷◌, [], ap, ◌∙◌}
use Rattle.replica_node.proofs.Regroups.{is_next_of, next_goes_on}
use Rattle.replica_node.proofs.node.Node.turn.Goals as goal

pub invariant_of-self : goal.invariant_of-self
invariant_of-self g c =
    let node = c.args.self.now in
    let room = c.args.room in
    let turned = c.turn.new.self in
    let made = c.turn.ensures in
    let before = g.R.Recorder.notes node.journal in
    let next = is_next_of node.first before node.inner turned room.me room.n node.stands c.requires.early c.requires.settled made.w made.limit made.me made.n made.stands in
    let goes = next_goes_on node.first node.inner.w node.inner.limit before turned next node.legal (g.R.Recorder.notes c.put.new.journal) (c.put.ensures.noted ∙ ap (λ (note : _). before ++ note ∷ []) c.change_to.ensures) in
    record { counted = c.put.ensures.counted; legal = goes.legal; stands = goes.stands }
