use Rattle.std.proofs.Common.{◌≡◌, ◌∙◌, ◌++◌, ◌+◌, ◌≤◌, true, false, List, ℕ, [], length, take, drop, ap, subst, sym, arith, length-take, length-append}
use Rattle.std.proofs.lemmas.List.{take-append-le}
use Rattle.store_io.specs.Bytes.{Gave}
use Rattle.script_net.specs.Lines.{ended_lines_of, from_command}
use Rattle.script_net.specs.Transcript.{lacks_header}
use Rattle.script_net.specs.declared.feed.Stop.TheVariants as stop
use Rattle.store_program.specs.Run.{source_seen, most_input, is_no_live}
use Rattle.store_program.specs.Live.{LiveEnds}
use Rattle.store_program.specs.LiveFeeding.{IsTaken}
use Rattle.store_program.proofs.Ending.{gave_both, gave_end}
use Rattle.store_program.proofs.LiveEnding.{live_stopped, live_ended, live_broken, live_too_long}
use Rattle.store_program.proofs.live_mode.read_input.Goals as goal

pub returns-in_default : goal.returns-in_default
returns-in_default g c = λ sink.
    let inv = c.reading.invariant in
    record {
      given = inv.given;
      gave = subst (λ left. Gave (g.S.Source.left c.args.source.now) left inv.given) (sym c.in_default.ensures.kept) inv.gave;
      few = omega (arith, inv.few);
      ends = live_broken inv.given _ _ inv.few sink c.reading.feed inv.taken (omega (arith, inv.steady, c.in_default.ensures.fault));
    }

pub returns-in-Ok-finish : goal.returns-in-Ok-finish
returns-in-Ok-finish g c =
    let inv = c.reading.invariant in
    record {
      given = inv.given;
      gave = gave_end _ _ _ inv.given c.read.new.buf c.in-Ok.taken c.if-taken-eq0.true inv.gave c.in-Ok.ensures.moved;
      ended = c.in-Ok.ensures.end c.if-taken-eq0.true;
      short = inv.few;
      asked = c.in-Ok-finish.ensures inv.given inv.taken;
    }

pub returns-in-Err : goal.returns-in-Err
returns-in-Err g c = λ sink.
    let inv = c.reading.invariant in
    record {
      given = inv.given;
      gave = gave_end _ _ _ inv.given c.read.new.buf c.in-Ok.taken c.if-taken-eq0.true inv.gave c.in-Ok.ensures.moved;
      few = omega (arith, inv.few);
      ends = subst (λ s. LiveEnds s inv.given (source_seen (g.S.Source.left c.args.source.now) (g.S.Source.faults c.args.source.now)) (source_seen (g.S.Source.left c.read.new.self) (g.S.Source.faults c.read.new.self)) sink sink) (sym c.status_of.ensures)
          (live_ended inv.given _ _ inv.few sink (c.in-Ok.ensures.end c.if-taken-eq0.true) c.in-Err.stop (c.in-Err.ensures inv.given inv.taken));
    }

pub returns-then-count-eq-MOST_INPUT : goal.returns-then-count-eq-MOST_INPUT
returns-then-count-eq-MOST_INPUT g c = λ sink.
    let inv = c.reading.invariant in
    let bytes : List ℕ = take c.in-Ok.taken c.read.new.buf in
    let full : length inv.given ≡ most_input = sym inv.count ∙ c.if-count-eq-MOST_INPUT.true in
    let one : length bytes ≡ 1 = omega (arith, length-take c.in-Ok.taken c.read.new.buf, c.in-Ok.ensures.within, c.if-taken-eq0.false, c.read.auto.buf, length-take c.max-room.result c.reading.buffer, c.max-room.ensures, c.min.ensures, c.if-count-eq-MOST_INPUT.true) in
    record {
      given = inv.given ++ bytes;
      gave = gave_both _ _ _ inv.given bytes inv.gave c.in-Ok.ensures.moved;
      few = omega (arith, full, one, length-append inv.given bytes);
      ends = live_too_long inv.given bytes sink c.reading.feed full one inv.taken;
    }

pub returns-in-Err-take_piece : goal.returns-in-Err-take_piece
returns-in-Err-take_piece g c = λ sink.
    let inv = c.reading.invariant in
    let buffer : List ℕ = c.read.new.buf in
    let bytes : List ℕ = take c.in-Ok.taken buffer in
    let within : c.in-Ok.taken ≤ length buffer = omega (arith, c.in-Ok.ensures.within, c.read.auto.buf) in
    let same : take c.in-Ok.taken (buffer ++ drop c.max-room.result c.reading.buffer) ≡ bytes = take-append-le c.in-Ok.taken buffer (drop c.max-room.result c.reading.buffer) within in
    let short : length (inv.given ++ bytes) ≤ most_input
    = omega (arith, length-append inv.given bytes, length-take c.in-Ok.taken buffer, inv.count, inv.few, c.if-count-eq-MOST_INPUT.false, c.in-Ok.ensures.within, length-take c.max-room.result c.reading.buffer, c.max-room.ensures, c.min.ensures) in
    record {
      given = inv.given ++ bytes;
      gave = gave_both _ _ _ inv.given bytes inv.gave c.in-Ok.ensures.moved;
      few = omega (arith, short);
      ends = subst (λ s. LiveEnds s (inv.given ++ bytes) (source_seen (g.S.Source.left c.args.source.now) (g.S.Source.faults c.args.source.now)) (source_seen (g.S.Source.left c.read.new.self) (g.S.Source.faults c.read.new.self)) sink sink) (sym c.status_of-in-Err-take_piece.ensures)
          (live_stopped (inv.given ++ bytes) _ _ short sink c.in-Err-take_piece.stop
          (subst (λ (bytes : List ℕ). c.in-Err-take_piece.stop ≡ stop.BadHeader → lacks_header is_no_live false (from_command (ended_lines_of (inv.given ++ bytes))) ≡ true) same
          (c.in-Err-take_piece.ensures.taken inv.given inv.taken)));
    }

pub reading-preserved : goal.reading-preserved
reading-preserved g c =
    let inv = c.reading.invariant in
    let buffer : List ℕ = c.read.new.buf in
    let bytes : List ℕ = take c.in-Ok.taken buffer in
    let within : c.in-Ok.taken ≤ length buffer = omega (arith, c.in-Ok.ensures.within, c.read.auto.buf) in
    let same : take c.in-Ok.taken (buffer ++ drop c.max-room.result c.reading.buffer) ≡ bytes = take-append-le c.in-Ok.taken buffer (drop c.max-room.result c.reading.buffer) within in
    let size : length (inv.given ++ bytes) ≡ c.reading.count + c.in-Ok.taken = omega (arith, length-append inv.given bytes, length-take c.in-Ok.taken buffer, inv.count, within) in
    record {
      given = inv.given ++ bytes;
      gave = gave_both _ _ _ inv.given bytes inv.gave c.in-Ok.ensures.moved;
      count = sym size;
      few = omega (arith, size, inv.count, inv.few, c.if-count-eq-MOST_INPUT.false, c.in-Ok.ensures.within, length-take c.max-room.result c.reading.buffer, c.max-room.ensures, c.min.ensures);
      lines = omega (arith, inv.lines, c.take_piece.ensures.count, ap length same, length-take c.in-Ok.taken buffer);
      steady = c.in-Ok.ensures.steady ∙ inv.steady;
      taken = subst (λ (bytes : List ℕ). IsTaken c.take_piece.new.feed (inv.given ++ bytes) []) same (c.in_default-take_piece.ensures.taken inv.given inv.taken);
    }
