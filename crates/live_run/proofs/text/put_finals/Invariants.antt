use Rattle.std.proofs.Common.{◌≡◌, ◌++◌, take}
use Rattle.std.specs.List.{flat_map}
use Rattle.live_run.specs.Inputs.{commands_in, objects_in}
use Rattle.live_run.specs.Texts.{final_lines, states_of}
use Rattle.live_run.proofs.text.put_finals.Given as goal

abbrev pub invariant-loop-object : goal.invariant-loop-object
invariant-loop-object l =
    l.out ≡ l.fn.out ++ flat_map (final_lines l.n (states_of l.nodes)) (take l.object-index (objects_in (commands_in l.lines)))
