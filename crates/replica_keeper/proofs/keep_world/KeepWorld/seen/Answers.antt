use Rattle.std.proofs.Common.{map, sym, ap, ◌∙◌}
use Rattle.causal_model.specs.State.{counted}
use Rattle.replica_keeper.proofs.Showing.{state_there}
use Rattle.replica_keeper.proofs.keep_world.KeepWorld.seen.Goals as goal

pub returns : goal.returns
returns c keep shown =
    let node = c.node.result.now in
    let state = state_there c.args.self.now.replicas.items (map (λ row. row.items) c.args.self.now.sent.items) keep shown.shows c.args.r c.requires.of node c.node.ensures in
    ap (λ (r : _). r.counts) c.replica.ensures ∙ node.stands.counts ∙ ap (λ s. counted s.history) (sym state)
