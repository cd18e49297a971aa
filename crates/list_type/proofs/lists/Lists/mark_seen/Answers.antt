use Rattle.std.proofs.Common.{◌∙◌, arith}
use Rattle.causal_model.specs.ListSteps.{had_seen}
use Rattle.list_type.specs.Heads.{head_of}
use Rattle.list_type.proofs.Taken.{mark_goes_on, mark_ends_last, mark_ends_full}
use Rattle.list_type.proofs.lists.Lists.mark_seen.Goals as goal

pub loop-preserved : goal.loop-preserved
loop-preserved c = record {
  rows = c.mark_if_seen.ensures.rows ∙ c.loop.invariant.rows;
  marking =
      mark_goes_on (had_seen c.args.head.now.epoch (head_of c.args.head.now)) c.args.self.now.chains.rows c.args.row c.loop.self.chains.rows c.loop.at c.loop.counter c.loop.invariant.marking
      c.behind.result c.in-Some.slot c.in-Some.is c.behind.ensures c.mark_if_seen.new.self.chains.rows c.mark_if_seen.ensures.marked;
  spare = omega (arith, c.mark_if_seen.ensures.spare, c.loop.invariant.spare);
}

pub returns-after-loop-clause-last : goal.returns-after-loop-clause-last
returns-after-loop-clause-last c =
    mark_ends_full (had_seen c.args.head.now.epoch (head_of c.args.head.now)) c.args.self.now.chains.rows c.args.row c.loop.self.chains.rows c.loop.at c.loop.counter c.loop.invariant.marking
    (omega (arith, c.loop-test.false, c.len-end.ensures))

pub returns-in_default-clause-last : goal.returns-in_default-clause-last
returns-in_default-clause-last c =
    mark_ends_last (had_seen c.args.head.now.epoch (head_of c.args.head.now)) c.args.self.now.chains.rows c.args.row c.loop.self.chains.rows c.loop.at c.loop.counter c.loop.invariant.marking
    c.behind.result c.in_default.is c.behind.ensures
