use Rattle.std.proofs.Common.{map, sym, ap, subst, ◌∙◌}
use Rattle.causal_model.specs.Stability.{stable_vector}
use Rattle.stability_matrix.specs.Standing.{IsMatrixOf}
use Rattle.replica_keeper.proofs.Showing.{state_there}
use Rattle.world.specs.Shows.{state_of}
use Rattle.replica_keeper.proofs.keep_world.KeepWorld.stable.Goals as goal

pub returns : goal.returns
returns c keep shown =
    let node = c.node.result.now in
    let state = state_there c.args.self.now.replicas.items (map (λ row. row.items) c.args.self.now.sent.items) keep shown.shows c.args.r c.requires.of node c.node.ensures in
    let p = (state_of node).history.present in
    let matrix = subst (λ (r : _). IsMatrixOf node.inner.n node.inner.me p.messages r.matrix) (sym c.replica.ensures) node.stands.matrix in
    c.stable.ensures.known node.inner.n node.inner.me p.messages matrix ∙ ap (λ n. stable_vector n node.inner.me p.messages) (sym node.stands.of_store) ∙ ap (λ me. stable_vector p.n me p.messages) (sym node.stands.of_member)
    ∙ ap (λ s. let q = s.history.present in stable_vector q.n q.me q.messages) (sym state)
