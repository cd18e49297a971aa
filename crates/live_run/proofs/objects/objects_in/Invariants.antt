use Rattle.std.proofs.Common.{◌≡◌, take}
use Rattle.live_run.specs.Inputs.{commands_in, objects_in, ObjectsRise}
use Rattle.live_run.proofs.objects.objects_in.Given as goal

abbrev pub invariant-loop-line : goal.invariant-loop-line
invariant-loop-line l = (l.objects.items ≡ objects_in (commands_in (take l.line-index l.lines))) × ObjectsRise l.objects.items
