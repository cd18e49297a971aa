use Rattle.std.proofs.Common.{◌≤◌, length, arith}
use denote.Struct.Props.{props}
use Rattle.std.proofs.Math.Logic.{∥∥₁_elim}
use Rattle.replica_core.specs.Rules.{fields_of}
use Rattle.replica_node.proofs.Stands.{narrow_by_test, early_are_few}
use Rattle.replica_node.proofs.node.most_notes.Goals as goal

pub overflow_add-result : goal.overflow_add-result
overflow_add-result c =
    let r = c.args.replica.now in
    let few : length r.buffer.early ≤ 32000 = ∥∥₁_elim r.stands (search props) (λ x. early_are_few (fields_of r) x.0 x.1 (narrow_by_test r.me r.n r.w r.limit r.numbers)) in
    omega (arith, few, c.len.ensures)
