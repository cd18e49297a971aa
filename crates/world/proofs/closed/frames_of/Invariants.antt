use Rattle.std.proofs.Common.{◌≡◌, take, map}
use Rattle.world.specs.Apart.{frames_by}
use Rattle.world.proofs.closed.frames_of.Given as goal

abbrev pub invariant-loop-node : goal.invariant-loop-node
invariant-loop-node l = map (λ row. row.items) l.rows.items ≡ map frames_by (take l.node-index l.nodes)
