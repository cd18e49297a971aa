use Rattle.std.proofs.Common.{◌≡◌, ◌%◌, fold, drop}
use Rattle.live_run.specs.Inputs.{commands_in, works_at}
use Rattle.live_run.proofs.jobs.replica_of.Given as goal

abbrev pub invariant-loop-line : goal.invariant-loop-line
invariant-loop-line l = fold (works_at l.c) l.at (commands_in (drop l.line-index l.lines)) ≡ fold (works_at l.c) (l.c % l.n) (commands_in l.lines)
