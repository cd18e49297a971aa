use Rattle.std.proofs.Common.{◌≡◌, map, sym, subst, IfOk}
use Rattle.causal_model.specs.Elements.{list_ids}
use Rattle.causal_model.specs.History.{events}
use Rattle.replica_keeper.proofs.Showing.{state_there}
use Rattle.replica_keeper.proofs.keep_world.KeepWorld.list_ids.Goals as goal

pub returns-clause-ids : goal.returns-clause-ids
returns-clause-ids c keep shown =
    let node = c.node.result.now in
    let state = state_there c.args.self.now.replicas.items (map (λ row. row.items) c.args.self.now.sent.items) keep shown.shows c.args.r c.requires.of node c.node.ensures in
    subst (λ s. IfOk c.list_ids-ids.result (λ ids. ids ≡ list_ids c.args.object.now (events s.history))) (sym state) c.list_ids-ids.ensures
