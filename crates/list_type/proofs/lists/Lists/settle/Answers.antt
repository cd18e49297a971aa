use Rattle.list_type.specs.Shown.{shown}
use Rattle.list_type.proofs.Settling.{entry_settled, moves_on, still_within}
use Rattle.list_type.proofs.lists.Lists.settle.Goals as goal

pub returns-clause-kept : goal.returns-clause-kept
returns-clause-kept c =
    entry_settled (shown c.args.self.now) (shown c.take.new.self) c.args.entry.now c.args.epoch c.of-head.result c.object.result.now c.act.result.now c.of-head.ensures c.object.ensures c.act.ensures c.take.ensures.kept

pub returns-clause-of : goal.returns-clause-of
returns-clause-of c = moves_on (shown c.args.self.now) (shown c.take.new.self) c.args.entry.now c.args.epoch (returns-clause-kept c)

pub returns-clause-deep : goal.returns-clause-deep
returns-clause-deep c = still_within (shown c.args.self.now) (shown c.take.new.self) c.args.entry.now c.args.epoch (returns-clause-kept c)
