use Rattle.std.proofs.Common.{ap, subst, ◌≡◌, ◌∙◌, arith}
use Rattle.causal_model.specs.State.{start}
use Rattle.replica_node.specs.Nodes.{state_by}
use Rattle.world.specs.Steps.{AreNodesOf}
use Rattle.world.proofs.Openings.{no_nodes, one_node_more}
use Rattle.world.proofs.world.open_nodes.Goals as goal

pub loop-me-init : goal.loop-me-init
loop-me-init c = no_nodes (start c.args.n) c.args.w c.args.limit c.in_ok-nodes.nodes.items c.in_ok-nodes.ensures.items

pub loop-me-preserved : goal.loop-me-preserved
loop-me-preserved c =
    let node = c.in-Ok.node in
    let state = ap (λ first. state_by first node.journal.notes) c.in-Ok.ensures.first ∙ ap (state_by (c.loop-me.me, c.args.n)) c.in-Ok.ensures.empty in
    one_node_more (start c.args.n) c.args.w c.args.limit c.loop-me.me c.loop-me.nodes.items c.push.new.self.items node c.loop-me.invariant c.in_ok-push.ensures.items state c.in-Ok.ensures.w c.in-Ok.ensures.limit

pub returns : goal.returns
returns c =
    let all : c.loop-me.me ≡ c.args.n = omega arith in
    subst (λ count. AreNodesOf (start c.args.n) c.args.w c.args.limit count c.loop-me.nodes.items) all c.loop-me.invariant
