use Rattle.std.proofs.Common.{◌≡◌, map, take}
use Rattle.live_run.specs.Ended.{notes_of_each}
use Rattle.live_run.proofs.mode.journals_of.Given as goal

abbrev pub invariant-loop-node : goal.invariant-loop-node
invariant-loop-node l = map (λ j. j.now) l.journals.items ≡ notes_of_each (take l.node-index l.nodes)
