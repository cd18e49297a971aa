use Rattle.std.proofs.Common.{◌≡◌, List, map, ap, subst, ◌∙◌, IfOk}
use Rattle.op_base.specs.Message.{id_of}
use Rattle.op_base.specs.declared.tag.MessageId.{MessageId}
use Rattle.causal_model.specs.Log.{message_of}
use Rattle.world.proofs.Nodes.{log_shown}
use Rattle.replica_keeper.proofs.Showing.{node_stands}
use Rattle.replica_keeper.proofs.keep_world.KeepWorld.kept.Goals as goal

pub returns-clause-ids : goal.returns-clause-ids
returns-clause-ids c keep shown =
    let node = c.node.result.now in
    let rows = (map (λ row. row.items) c.args.self.now.sent.items) in
    let stands = node_stands c.args.self.now.replicas.items rows keep shown.shows c.args.r c.requires.of node c.node.ensures in
    let same = ap (λ (r : _). map (λ e. id_of (message_of e)) r.log.entries) c.replica.ensures in
    subst (λ (x : List MessageId). IfOk c.ids-ids.result (λ ids. ids ≡ x)) (same ∙ log_shown shown.shows.nodes rows keep.world shown.shows.shows c.args.r node stands) c.ids-ids.ensures
