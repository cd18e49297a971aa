use Rattle.list_type.proofs.Trees.{ended_at_front, ended_at, goes_on_at}
use Rattle.list_type.proofs.tree.trim.Goals as goal

pub returns-in_err-slot-clause-ended : goal.returns-in_err-slot-clause-ended
returns-in_err-slot-clause-ended g c row aim trimmed =
    rw c.from_residual.ensures (ended_at_front c.args.chains.now.rows row aim c.args.at c.in_err-slot.was trimmed)

pub returns-then-not-leaves-clause-ended : goal.returns-then-not-leaves-clause-ended
returns-then-not-leaves-clause-ended g c row aim trimmed =
    ended_at c.args.chains.now.rows row c.in_ok-slot.slot aim c.args.at c.in_ok-slot.was trimmed c.leaves.result c.leaves.ensures c.if-not-leaves.true

pub returns-clause-goes_on : goal.returns-clause-goes_on
returns-clause-goes_on g c row aim trimmed =
    goes_on_at c.args.chains.now.rows row c.in_ok-slot.slot aim c.args.at c.in_ok-slot.was trimmed c.leaves.result c.leaves.ensures c.if-not-leaves.false
    c.take_out.new.self.rows c.previous-ahead.result c.previous-ahead.ensures c.take_out.ensures.rows

pub returns-clause-out : goal.returns-clause-out
returns-clause-out g c = (c.in_ok-slot.slot, c.in_ok-slot.was, c.take_out.ensures.out)
