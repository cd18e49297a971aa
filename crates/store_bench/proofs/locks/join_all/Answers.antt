use Rattle.std.proofs.Common.{rules, ◌+◌}
use Rattle.store_bench.proofs.locks.join_all.Goals as goal

pub loop-pass-preserved : goal.loop-pass-preserved
loop-pass-preserved c = let was = c.loop-pass.invariant in let step = c.in-Some.ensures.steps in let first = was.2 0 c.in-Some.pass in
    (search rules, search rules, λ k d below. let h = was.2 (k + 1) d in grind rules)
