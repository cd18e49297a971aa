use Rattle.std.proofs.Common.{◌≡◌, List, map, ap, subst, ◌∙◌, IfOk}
use Rattle.op_base.specs.Message.{id_of}
use Rattle.op_base.specs.declared.tag.MessageId.{MessageId}
use Rattle.causal_model.specs.Log.{message_of}
use Rattle.world.proofs.Nodes.{log_shown}
use Rattle.world.proofs.world.World.kept.Goals as goal

pub returns : goal.returns
returns c plain shows =
    let node = c.index.result.now in
    let shown = log_shown c.args.self.now.nodes.items (map (λ row. row.items) c.args.self.now.sent.items) plain shows c.args.r node (record { low = c.requires; at = c.index.ensures }) in
    let same = ap (λ (r : _). map (λ e. id_of (message_of e)) r.log.entries) c.replica.ensures in
    subst (λ (x : List MessageId). IfOk c.ids.result (λ ids. ids ≡ x)) (same ∙ shown) c.ids.ensures
