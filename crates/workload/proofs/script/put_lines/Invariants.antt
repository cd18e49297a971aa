use Rattle.std.proofs.Common.{◌≡◌, ◌++◌, ◌-◌}
use Rattle.workload.specs.Script.{lines_from, words_text}
use Rattle.workload.proofs.script.put_lines.Given as goal

-- the lines that are still to be put make the text what it is to be
abbrev pub invariant-loop-line : goal.invariant-loop-line
invariant-loop-line l =
    l.out ++ words_text (lines_from l.n (l.count - l._line) l.draws.state)
    ≡ l.initial.out ++ words_text (lines_from l.n l.count l.initial.draws.state)
