use Rattle.std.proofs.Common.{ap, ◌∙◌}
use Rattle.list_type.specs.Chained.{rows_with}
use Rattle.list_type.specs.Nodes.{gone_node}
use Rattle.list_type.proofs.Trees.{marked}
use Rattle.list_type.proofs.tree.mark_gone.Goals as goal

pub returns-clause-rows : goal.returns-clause-rows
returns-clause-rows g c row before node after stands =
    ap (λ n. rows_with c.args.chains.now.rows c.args.slot (gone_node n)) (c.get_mut.ensures.value row before node after stands)
    ∙ c.get_mut.ensures.written (gone_node node) row before node after stands

pub returns-clause-trimmed : goal.returns-clause-trimmed
returns-clause-trimmed g c row before node after stands kept =
    marked c.args.chains.now.rows (rows_with c.args.chains.now.rows c.args.slot (gone_node c.get_mut.result.now)) row c.args.slot before node after stands
    (ap (λ n. rows_with c.args.chains.now.rows c.args.slot (gone_node n)) (c.get_mut.ensures.value row before node after stands) ∙ c.get_mut.ensures.written (gone_node node) row before node after stands) kept
