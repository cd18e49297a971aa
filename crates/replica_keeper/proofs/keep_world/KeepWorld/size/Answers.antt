use Rattle.std.proofs.Common.{◌≡◌, ℕ, map, length, sym, ap, ◌∙◌}
use Rattle.std.proofs.lemmas.List.{length-map}
use Rattle.op_base.specs.Message.{id_of}
use Rattle.causal_model.specs.Log.{log_of, message_of}
use Rattle.causal_model.specs.Settled.{settled_items}
use Rattle.stable_state.specs.Filled.{filled_of}
use Rattle.stable_state.specs.Shown.{shown as shown_items}
use Rattle.world_model.specs.Showing.{entries_at, items_at}
use Rattle.world_model.specs.World.{replica_of}
use Rattle.world.proofs.Nodes.{log_shown}
use Rattle.replica_keeper.proofs.Showing.{node_stands, state_there}
use Rattle.replica_keeper.proofs.keep_world.KeepWorld.size.Goals as goal

pub returns : goal.returns
returns c keep shown =
    let node = c.node.result.now in
    let rows = (map (λ row. row.items) c.args.self.now.sent.items) in
    let stands = node_stands c.args.self.now.replicas.items rows keep shown.shows c.args.r c.requires.of node c.node.ensures in
    let state = state_there c.args.self.now.replicas.items (map (λ row. row.items) c.args.self.now.sent.items) keep shown.shows c.args.r c.requires.of node c.node.ensures in
    let log = log_shown shown.shows.nodes rows keep.world shown.shows.shows c.args.r node stands in
    let entries : c.len.result ≡ entries_at keep.world c.args.r =
    c.len.ensures ∙ ap (λ (r : _). length r.log.entries) c.replica-replica.ensures ∙ sym (length-map node.inner.log.entries (λ e. id_of (message_of e))) ∙ ap length log ∙ length-map (log_of (replica_of keep.world c.args.r).history) id_of in
    let items : c.filled_len.result ≡ items_at keep.world c.args.r =
    c.filled_len.ensures ∙ ap (λ (r : _). length (filled_of (shown_items r.items).items)) c.replica-replica.ensures ∙ ap length node.stands.items.items ∙ ap (λ s. length (settled_items s.history)) (sym state) in
    ap (λ (a : ℕ). (a, c.filled_len.result)) entries ∙ ap (λ (b : ℕ). (entries_at keep.world c.args.r, b)) items
