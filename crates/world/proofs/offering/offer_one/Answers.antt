use Rattle.std.proofs.Common.{rules, ◌≡◌, Option, None, sym, subst, ◌∙◌}
use Rattle.op_base.specs.declared.message.Message.{Message}
use Rattle.causal_model.specs.Receiving.{refusal_of}
use Rattle.causal_model.specs.declared.outcome.Refusal.{Refusal}
use Rattle.causal_model.specs.State.{State}
use Rattle.replica_core.specs.Rules.{StandsFor}
use Rattle.replica_core.specs.declared.replica.Replica.{Replica}
use Rattle.world.specs.Shows.{NotedNode, state_of}
use Rattle.world.specs.Steps.{offered_at}
use Rattle.world.proofs.Offers.{some_refused}
use Rattle.world.proofs.offering.offer_one.Goals as goal

-- why a message isn't accepted is told of the node's replica
told : (node : NotedNode) (replica : Replica) (why : Option Refusal) (m : Message) → replica ≡ node.inner → ((s : State) → StandsFor replica s → why ≡ refusal_of replica.w s m)
    → (s : State) → StandsFor node.inner s → why ≡ refusal_of node.inner.w s m
told node replica why m is refused = subst (λ (x : Replica). (s : State) → StandsFor x s → why ≡ refusal_of x.w s m) is refused

pub returns-then-is_some-clause-made : goal.returns-then-is_some-clause-made
returns-then-is_some-clause-made c =
    let node = c.args.node.now in
    some_refused node.inner.w (offered_at node c.args.made.now) c.args.message.now c.refusal.result (sym c.is_some.ensures ∙ c.if-is_some.true) (sym (told node _ c.refusal.result c.args.message.now c.replica.ensures c.refusal.ensures (state_of node) node.stands))

pub offer_copy-requires-in_default-clause-unrefused : goal.offer_copy-requires-in_default-clause-unrefused
offer_copy-requires-in_default-clause-unrefused c = λ s stands.
    let none : c.refusal.result ≡ None = search rules in
    sym (told c.args.node.now _ c.refusal.result c.args.message.now c.replica.ensures c.refusal.ensures s stands) ∙ none
