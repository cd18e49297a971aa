use Rattle.std.proofs.Common.{ap, arith}
use Rattle.causal_buffer.specs.Row.{Row}
use Rattle.causal_buffer.proofs.row.Places.reach.Goals as goal

pub overflow_add-place : goal.overflow_add-place
overflow_add-place c = omega (arith, c.requires, ap (λ (r : Row). r.room) c.self.view_is, c.self.inside.block.small)
