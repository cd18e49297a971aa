use Rattle.std.proofs.Common.{Fits-le, Fits-lit, arith}
use Rattle.world.proofs.Settles.{few_members, some_members, low_limit, product_is_low, rounds_are_few}
use Rattle.world.proofs.world.World.most_rounds.Goals as goal

pub overflow_mul-result : goal.overflow_mul-result
overflow_mul-result c =
    let world = c.args.self.now in
    let node = c.index.result.now in
    Fits-le (product_is_low c.len-members.result node.inner.limit (omega (arith, few_members world)) (low_limit world node (record { low = some_members world; at = c.index.ensures }))) (Fits-lit tt)

pub overflow_add-result : goal.overflow_add-result
overflow_add-result c =
    let world = c.args.self.now in
    let node = c.index.result.now in
    Fits-le (rounds_are_few c.len-members.result node.inner.limit (omega (arith, few_members world)) (low_limit world node (record { low = some_members world; at = c.index.ensures }))) (Fits-lit tt)

pub overflow_mul-result-2 : goal.overflow_mul-result-2
overflow_mul-result-2 c = Fits-le (omega arith) (overflow_add-result c)
