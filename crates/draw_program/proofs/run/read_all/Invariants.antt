use Rattle.std.proofs.Common.{◌≡◌, ℕ, ◌-◌, ◌+◌, ◌≤◌, length}
use Rattle.store_io.specs.Bytes.{Gave}
use Rattle.draw_program.specs.declared.run.TheConstants.{MOST_INPUT}
use Rattle.draw_program.proofs.run.read_all.Given as goal

-- the input so far was given, and no read failed
abbrev pub invariant-reading : goal.invariant-reading
invariant-reading g l = record {
  gave : Gave (g.S.Source.left l.initial.source) (g.S.Source.left l.source) l.input.items;
  few : length l.input.items ≤ MOST_INPUT;
  steady : g.S.Source.faults l.source ≡ g.S.Source.faults l.initial.source;
}

abbrev pub decreases-reading : goal.decreases-reading
decreases-reading g l = MOST_INPUT + 1 - length l.input.items
