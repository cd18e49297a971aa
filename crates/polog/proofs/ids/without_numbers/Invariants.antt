use Rattle.std.proofs.Common.{◌≡◌, map, take}
use Rattle.polog.proofs.ids.without_numbers.Given as goal

abbrev pub invariant-loop-id : goal.invariant-loop-id
invariant-loop-id l = l.ids.items ≡ map (λ r. r.1) (take l.id-index l.rows)
