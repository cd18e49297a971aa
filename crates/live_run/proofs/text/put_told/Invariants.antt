use Rattle.std.proofs.Common.{◌≡◌, ◌++◌, take}
use Rattle.live_run.specs.Texts.{told_lines}
use Rattle.live_run.proofs.text.put_told.Given as goal

abbrev pub invariant-loop-i : goal.invariant-loop-i
invariant-loop-i l = l.out ≡ l.fn.out ++ told_lines l.fn.c 1 (take l.i l.told)
