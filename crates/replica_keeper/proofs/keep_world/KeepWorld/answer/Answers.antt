use Rattle.std.proofs.Common.{◌≡◌, map, sym, subst, IfOk}
use Rattle.causal_model.specs.History.{events}
use Rattle.causal_model.specs.Query.{answer}
use Rattle.replica_keeper.proofs.Showing.{state_there}
use Rattle.replica_keeper.proofs.keep_world.KeepWorld.answer.Goals as goal

pub returns-clause-answer : goal.returns-clause-answer
returns-clause-answer c keep shown =
    let node = c.node.result.now in
    let state = state_there c.args.self.now.replicas.items (map (λ row. row.items) c.args.self.now.sent.items) keep shown.shows c.args.r c.requires.of node c.node.ensures in
    subst (λ s. IfOk c.answer-answer.result (λ a. a ≡ answer c.args.object.now (events s.history))) (sym state) c.answer-answer.ensures
