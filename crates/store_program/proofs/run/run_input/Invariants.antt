use Rattle.std.proofs.Common.{◌≡◌, ℕ, ◌-◌, ◌≤◌, List, [], length}
use Rattle.store_io.specs.Bytes.{Gave}
use Rattle.store_program.specs.Feeding.{IsFed}
use Rattle.store_program.specs.declared.run.TheConstants.{MOST_INPUT}
use Rattle.store_program.proofs.run.run_input.Given as goal

-- some bytes were given, no read failed, and the script has come so far
abbrev pub invariant-reading : goal.invariant-reading
invariant-reading g l = record {
  given : List ℕ;
  gave : Gave (g.S.Source.left l.initial.source) (g.S.Source.left l.source) given;
  count : l.count ≡ length given;
  few : length given ≤ MOST_INPUT;
  steady : g.S.Source.faults l.source ≡ g.S.Source.faults l.initial.source;
  empty : l.out ≡ [];
  fed : IsFed l.feed given [] (g.K.Sink.held l.initial.sink) (g.K.Sink.held l.sink) (g.K.Sink.faults l.initial.sink) (g.K.Sink.faults l.sink);
}

abbrev pub decreases-reading : goal.decreases-reading
decreases-reading g l = MOST_INPUT - l.count
