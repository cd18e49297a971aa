use Rattle.std.proofs.Common.{◌≡◌, ◌++◌, take}
use Rattle.live_run.specs.Texts.{bad_lines}
use Rattle.live_run.proofs.text.put_bad_lines.Given as goal

abbrev pub invariant-loop-line : goal.invariant-loop-line
invariant-loop-line l = l.out ≡ l.fn.out ++ bad_lines (take l.line-index l.lines)
