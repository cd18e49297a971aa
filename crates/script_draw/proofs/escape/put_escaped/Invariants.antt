use Rattle.std.proofs.Common.{◌≡◌, ◌++◌, string_bytes}
use Rattle.script_draw.specs.Escape.{escaped}
use Rattle.script_draw.proofs.escape.put_escaped.Given as goal

abbrev pub invariant-loop-c : goal.invariant-loop-c
invariant-loop-c l = string_bytes l.out ≡ string_bytes l.initial.out ++ escaped l.yielded
