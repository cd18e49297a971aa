use Rattle.std.proofs.Common.{◌∙◌, arith}
use Rattle.list_type.proofs.Taken.{pruning_held, prune_goes_on, prune_ends}
use Rattle.list_type.proofs.lists.Lists.prune.Goals as goal

pub previous-at-requires : goal.previous-at-requires
previous-at-requires c = pruning_held c.args.self.now.chains.rows c.args.row c.loop.self.chains.rows c.loop.at c.loop.counter c.loop.invariant.pruning c.in-Some.slot c.in-Some.is

pub take_if_leaves-requires : goal.take_if_leaves-requires
take_if_leaves-requires c = pruning_held c.args.self.now.chains.rows c.args.row c.loop.self.chains.rows c.loop.at c.loop.counter c.loop.invariant.pruning c.in-Some.slot c.in-Some.is

pub loop-preserved : goal.loop-preserved
loop-preserved c = record {
  rows = c.take_if_leaves.ensures.rows ∙ c.loop.invariant.rows;
  pruning =
      prune_goes_on c.args.self.now.chains.rows c.args.row c.loop.self.chains.rows c.loop.at c.loop.counter c.loop.invariant.pruning c.in-Some.slot c.in-Some.is
      c.take_if_leaves.new.self.chains.rows c.previous-at.result c.previous-at.ensures c.take_if_leaves.ensures.kept;
  spare = omega (arith, c.take_if_leaves.ensures.spare, c.loop.invariant.spare);
}

pub returns-in_default-clause-kept : goal.returns-in_default-clause-kept
returns-in_default-clause-kept c =
    prune_ends c.args.self.now.chains.rows c.args.row c.loop.self.chains.rows c.loop.at c.loop.counter c.loop.invariant.pruning c.in_default.is
