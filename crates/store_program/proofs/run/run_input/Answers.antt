use Rattle.std.proofs.Common.{◌≡◌, ◌∙◌, ◌++◌, ℕ, ◌+◌, ◌≤◌, List, [], length, take, drop, subst, sym, arith, length-take, length-append}
use Rattle.std.proofs.lemmas.Bool.Decides.{nat_tests}
use Rattle.std.proofs.lemmas.List.{take-append-le}
use Rattle.store_io.specs.Bytes.{Gave}
use Rattle.script_net.specs.Lines.{ended_lines_of}
use Rattle.store_program.specs.Feeding.{IsFed, StopsAs}
use Rattle.store_program.specs.Run.{most_input}
use Rattle.store_program.proofs.Ending.{gave_both, gave_end, fed_with, ends_broken, ends_concluded, ends_too_long, ends_stopped}
use Rattle.store_program.proofs.run.run_input.Goals as goal

pub returns-in_default : goal.returns-in_default
returns-in_default g c =
    let inv = c.reading.invariant in
    record {
      given = inv.given;
      gave = subst (λ left. Gave (g.S.Source.left c.args.source.now) left inv.given) (sym c.in_default.ensures.kept) inv.gave;
      few = omega (arith, inv.few);
      ends = ends_broken inv.given _ _ _ _ inv.few c.reading.feed inv.fed (omega (arith, inv.steady, c.in_default.ensures.fault));
    }

pub returns-then-taken-eq0 : goal.returns-then-taken-eq0
returns-then-taken-eq0 g c =
    let inv = c.reading.invariant in
    record {
      given = inv.given;
      gave = gave_end _ _ _ inv.given c.read.new.buf c.in-Ok.taken c.if-taken-eq0.true inv.gave c.in-Ok.ensures.moved;
      few = omega (arith, inv.few);
      ends = ends_concluded inv.given _ _ _ _ inv.few c.finish-status.result (c.in-Ok.ensures.end c.if-taken-eq0.true)
          (c.finish-status.ensures inv.given _ _ (fed_with _ inv.given _ _ _ _ _ inv.empty inv.fed));
    }

pub returns-then-count-eq-MOST_INPUT : goal.returns-then-count-eq-MOST_INPUT
returns-then-count-eq-MOST_INPUT g c =
    let inv = c.reading.invariant in
    let bytes : List ℕ = take c.in-Ok.taken c.read.new.buf in
    let full : length inv.given ≡ most_input = sym inv.count ∙ c.if-count-eq-MOST_INPUT.true in
    let one : length bytes ≡ 1 = grind (arith, nat_tests, length-take c.in-Ok.taken c.read.new.buf, c.in-Ok.ensures.within, c.if-taken-eq0.false, c.read.auto.buf) in
    record {
      given = inv.given ++ bytes;
      gave = gave_both _ _ _ inv.given bytes inv.gave c.in-Ok.ensures.moved;
      few = omega (arith, full, one, length-append inv.given bytes);
      ends = ends_too_long inv.given bytes _ _ c.reading.feed full one inv.fed;
    }

pub returns-in-Err : goal.returns-in-Err
returns-in-Err g c =
    let inv = c.reading.invariant in
    let buffer : List ℕ = c.read.new.buf in
    let bytes : List ℕ = take c.in-Ok.taken buffer in
    let within : c.in-Ok.taken ≤ length buffer = omega (arith, c.in-Ok.ensures.within, c.read.auto.buf) in
    let same : take c.in-Ok.taken (buffer ++ drop c.max-room.result c.reading.buffer) ≡ bytes = take-append-le c.in-Ok.taken buffer (drop c.max-room.result c.reading.buffer) within in
    let short : length (inv.given ++ bytes) ≤ most_input
    = omega (arith, length-append inv.given bytes, length-take c.in-Ok.taken buffer, inv.count, inv.few, c.if-count-eq-MOST_INPUT.false, c.in-Ok.ensures.within, length-take c.max-room.result c.reading.buffer, c.max-room.ensures, c.min.ensures) in
    record {
      given = inv.given ++ bytes;
      gave = gave_both _ _ _ inv.given bytes inv.gave c.in-Ok.ensures.moved;
      few = omega (arith, short);
      ends = ends_stopped (inv.given ++ bytes) _ _ _ _ short c.in-Err.status
          (subst (λ (bytes : List ℕ). StopsAs c.in-Err.status (ended_lines_of (inv.given ++ bytes)) (g.K.Sink.held c.args.sink.now) (g.K.Sink.held c.run_piece.new.sink) (g.K.Sink.faults c.args.sink.now) (g.K.Sink.faults c.run_piece.new.sink)) same
          (c.in-Err.ensures.fed inv.given _ _ (fed_with _ inv.given _ _ _ _ _ inv.empty inv.fed)));
    }

pub reading-preserved : goal.reading-preserved
reading-preserved g c =
    let inv = c.reading.invariant in
    let buffer : List ℕ = c.read.new.buf in
    let bytes : List ℕ = take c.in-Ok.taken buffer in
    let within : c.in-Ok.taken ≤ length buffer = omega (arith, c.in-Ok.ensures.within, c.read.auto.buf) in
    let same : take c.in-Ok.taken (buffer ++ drop c.max-room.result c.reading.buffer) ≡ bytes = take-append-le c.in-Ok.taken buffer (drop c.max-room.result c.reading.buffer) within in
    let size : length (inv.given ++ bytes) ≡ c.reading.count + c.in-Ok.taken = omega (arith, length-append inv.given bytes, length-take c.in-Ok.taken buffer, inv.count, within) in
    record {
      given = inv.given ++ bytes;
      gave = gave_both _ _ _ inv.given bytes inv.gave c.in-Ok.ensures.moved;
      count = sym size;
      few = omega (arith, size, inv.count, inv.few, c.if-count-eq-MOST_INPUT.false, c.in-Ok.ensures.within, length-take c.max-room.result c.reading.buffer, c.max-room.ensures, c.min.ensures);
      steady = c.in-Ok.ensures.steady ∙ inv.steady;
      empty = c.in_default-run_piece.ensures.empty;
      fed = subst (λ (bytes : List ℕ). IsFed c.run_piece.new.feed (inv.given ++ bytes) [] (g.K.Sink.held c.args.sink.now) (g.K.Sink.held c.run_piece.new.sink) (g.K.Sink.faults c.args.sink.now) (g.K.Sink.faults c.run_piece.new.sink)) same
          (c.in_default-run_piece.ensures.fed inv.given _ _ (fed_with _ inv.given _ _ _ _ _ inv.empty inv.fed));
    }
