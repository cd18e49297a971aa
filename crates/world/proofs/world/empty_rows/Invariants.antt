use Rattle.std.proofs.Common.{◌≡◌, map}
use Rattle.world.specs.Steps.{are_empty}
use Rattle.world.proofs.world.empty_rows.Given as goal

abbrev pub invariant-loop : goal.invariant-loop
invariant-loop l = map (λ row. row.items) l.rows.items ≡ are_empty l.counter
