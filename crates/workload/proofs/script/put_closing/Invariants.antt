use Rattle.std.proofs.Common.{◌≡◌, ◌++◌, take}
use Rattle.std.specs.List.{flat_map}
use Rattle.workload.specs.Script.{drawn_kinds, questions_of, words_text}
use Rattle.workload.proofs.script.put_closing.Given as goal

abbrev pub invariant-loop-place : goal.invariant-loop-place
invariant-loop-place l = l.out ≡ l.initial.out ++ words_text (flat_map questions_of (take l.place drawn_kinds))
