use Rattle.std.proofs.Common.{◌≡◌, ◌++◌, map}
use Rattle.std.specs.List.{flat_map}
use Rattle.causal_model.specs.Counts.{members}
use Rattle.live_run.specs.Texts.{journals_lines}
use Rattle.live_run.proofs.text.put_journals.Given as goal

abbrev pub invariant-loop-r : goal.invariant-loop-r
invariant-loop-r l = l.out ≡ l.fn.out ++ flat_map (journals_lines l.fn.n (map (λ j. j.now) l.journals)) (members l.r)
