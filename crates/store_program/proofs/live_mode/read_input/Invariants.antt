use Rattle.std.proofs.Common.{◌≡◌, ℕ, ◌-◌, ◌≤◌, List, [], length}
use Rattle.store_io.specs.Bytes.{Gave}
use Rattle.store_program.specs.LiveFeeding.{IsTaken}
use Rattle.store_program.specs.declared.run.TheConstants.{MOST_INPUT}
use Rattle.store_program.proofs.live_mode.read_input.Given as goal

-- some bytes were given, no read failed, and the input has come so far
abbrev pub invariant-reading : goal.invariant-reading
invariant-reading g l = record {
  given : List ℕ;
  gave : Gave (g.S.Source.left l.initial.source) (g.S.Source.left l.source) given;
  count : l.count ≡ length given;
  few : length given ≤ MOST_INPUT;
  lines : l.feed.count ≤ l.count;
  steady : g.S.Source.faults l.source ≡ g.S.Source.faults l.initial.source;
  taken : IsTaken l.feed given [];
}

abbrev pub decreases-reading : goal.decreases-reading
decreases-reading g l = MOST_INPUT - l.count
