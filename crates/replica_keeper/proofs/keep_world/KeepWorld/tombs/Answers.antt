use Rattle.std.proofs.Common.{map, sym, ap, ◌∙◌}
use Rattle.causal_model.specs.KeptElements.{tombs_of}
use Rattle.replica_keeper.proofs.Showing.{state_there}
use Rattle.replica_keeper.proofs.keep_world.KeepWorld.tombs.Goals as goal

pub returns : goal.returns
returns c keep shown =
    let state = state_there c.args.self.now.replicas.items (map (λ row. row.items) c.args.self.now.sent.items) keep shown.shows c.args.r c.requires.of c.node.result.now c.node.ensures in
    c.tombs.ensures ∙ ap (λ s. tombs_of s.history c.args.object.now) (sym state)
