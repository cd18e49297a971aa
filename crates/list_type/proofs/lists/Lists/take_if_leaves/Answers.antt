use Rattle.std.proofs.Common.{sym, ap, ◌∙◌, None, cond, ◌++◌}
use Rattle.std.specs.HashMap.{get}
use Rattle.std.proofs.Common.{set}
use Rattle.causal_model.specs.Elements.{same_element}
use Rattle.list_type.specs.Depths.{put_before}
use Rattle.list_type.specs.Nodes.{node_depth, node_gone}
use Rattle.list_type.specs.declared.lists.Content.{Content}
use Rattle.list_type.specs.declared.tree.Node.{Node}
use Rattle.list_type.proofs.Leaving.{listed_without}
use Rattle.list_type.proofs.Taken.{row_stays}
use Rattle.list_type.proofs.lists.Lists.take_if_leaves.Goals as goal

pub invariant_of-self : goal.invariant_of-self
invariant_of-self c =
    let s = c.args.self.now in
    let held = c.requires in
    let out = c.take_out-node.ensures in
    record {
      listed =
          listed_without s.rows s.slots c.forget.new.slots s.chains c.take_out-node.new.self s.listed held.0 c.args.slot held.1 held.2 held.3 held.4
          (out.rows held.0 held.1 held.2 held.3 held.4) out.out
          (λ other. c.forget.ensures.forgotten other ∙ ap (λ (n : Node Content). cond (same_element n.value.id other) None (get same_element s.slots other)) (out.value held.0 held.1 held.2 held.3 held.4));
    }

pub returns-else-leaves-clause-kept : goal.returns-else-leaves-clause-kept
returns-else-leaves-clause-kept c row before node after stands =
    let rows = c.args.self.now.chains.rows in
    row_stays rows row before c.args.slot node after stands
    ∙ ap (λ b. set rows row (before ++ put_before node_depth node_gone b (c.args.slot, node) after)) (sym c.if-leaves.false ∙ c.leaves.ensures row before node after stands)
