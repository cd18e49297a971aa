use Rattle.std.proofs.Common.{◌≡◌, ◌++◌}
use Rattle.std.specs.List.{flat_map}
use Rattle.causal_model.specs.Counts.{members}
use Rattle.live_run.specs.Texts.{final_line, states_of}
use Rattle.live_run.proofs.text.put_finals_of.Given as goal

abbrev pub invariant-loop-r : goal.invariant-loop-r
invariant-loop-r l = l.out ≡ l.fn.out ++ flat_map (λ r. final_line (states_of l.nodes) r l.object) (members l.r)
