use Rattle.std.proofs.Common.{◌≡◌, true, not, ◌&&◌, sym, ap, ◌∙◌}
use Rattle.list_type.specs.Depths.{is_deeper}
use Rattle.list_type.specs.Nodes.{node_depth, node_gone}
use Rattle.list_type.proofs.Places.{next_meets}
use Rattle.list_type.proofs.Trees.{below_is}
use Rattle.list_type.proofs.tree.leaves.Goals as goal

pub is_below-requires : goal.is_below-requires
is_below-requires g c k is =
    let held = c.requires in
    let met = next_meets c.args.chains.now.rows held.0 c.args.slot held.1 held.2 held.3 c.next.result k held.4 (c.next.ensures held.0 held.1 held.2 held.3 held.4) is in
    (held.0, met.before, met.value, met.after, met.stands)

pub returns-then-node : goal.returns-then-node
returns-then-node g c row before node after stands =
    let is = c.get-node.ensures row before node after stands in
    let below = below_is c.args.chains.now.rows row c.args.slot before node after c.next.result c.get-node.result.now.depth c.is_below.result stands (c.next.ensures row before node after stands) c.is_below.ensures.none c.is_below.ensures.some in
    let gone : node.gone ≡ true = sym (ap (λ n. n.gone) is) ∙ c.if-node.true in
    ap not (below ∙ ap (λ n. is_deeper node_depth node_gone n.depth after) is)
    ∙ ap (λ b. b && not (is_deeper node_depth node_gone node.depth after)) (sym gone)
