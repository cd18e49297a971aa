use Rattle.std.proofs.Common.{arith, ◌≡◌, ◌<◌, length, map, ap, sym, subst, ◌∙◌}
use Rattle.causal_model.specs.State.{State}
use Rattle.causal_model.specs.Stability.{unstable_noops}
use Rattle.replica_core.specs.declared.replica.Replica.{Replica}
use Rattle.world.specs.Shows.{state_of}
use Rattle.world.proofs.Lags.{own_is_held, noops_shown}
use Rattle.world.proofs.Honest.{noops_are_few_at}
use Rattle.world.proofs.Nodes.{state_shown, member_shown}
use Rattle.world.proofs.world.World.noops.Goals as goal

pub own_unstable-requires : goal.own_unstable-requires
own_unstable-requires c = subst (λ (r : Replica). r.me < length r.window.held) (sym c.replica-replica.ensures) (own_is_held c.index.result.now)

pub returns-clause-own : goal.returns-clause-own
returns-clause-own c plain shows =
    let node = c.index.result.now in
    let r = c.replica-replica.result.now in
    let ms = (state_of node).history.present.messages in
    let told : c.own_unstable.result ≡ unstable_noops node.inner.n node.inner.me ms r.me =
    c.own_unstable.ensures.of node.inner.n node.inner.w node.inner.me ms (rw c.replica-replica.ensures node.stands.window) in
    told ∙ ap (λ (x : Replica). unstable_noops node.inner.n node.inner.me ms x.me) c.replica-replica.ensures
    ∙ noops_shown node
    ∙ ap (λ (s : State). let p = s.history.present in unstable_noops p.n p.me p.messages p.me)
    (sym (state_shown c.args.self.now.nodes.items (map (λ row. row.items) c.args.self.now.sent.items) plain shows c.args.r node (record { low = c.requires; at = c.index.ensures })))

pub returns-clause-few : goal.returns-clause-few
returns-clause-few c plain shows honest =
    let few = noops_are_few_at plain c.args.r honest (member_shown c.args.self.now.nodes.items (map (λ row. row.items) c.args.self.now.sent.items) plain shows c.args.r c.requires) in
    omega (arith, few, returns-clause-own c plain shows)
