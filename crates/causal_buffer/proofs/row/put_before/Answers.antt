use Rattle.std.proofs.Common.{drop}
use Rattle.causal_buffer.proofs.Places.{none_before}
use Rattle.causal_buffer.proofs.row.put_before.Goals as goal

pub returns-then-count-eq0-clause-made : goal.returns-then-count-eq0-clause-made
returns-then-count-eq0-clause-made c =
    let block = c.args.block.now in
    none_before c.args.count c.args.room (drop c.args.start block.items) c.if-count-eq0.true c.requires.row
