use Rattle.std.proofs.Common.{arith}
use Rattle.store_program.proofs.LiveLines.{taken_begins, taken_line, taken_headless, taken_kept}
use Rattle.store_program.proofs.live_mode.take_piece.Goals as goal

pub lines-init : goal.lines-init
lines-init c = record {
  few = omega arith;
  taken = λ bytes taken. taken_begins c.args.feed.now bytes c.args.piece.now taken;
}

pub returns-in-Err-clause-taken : goal.returns-in-Err-clause-taken
returns-in-Err-clause-taken c = λ bytes before bad.
    let t = c.lines.invariant.taken bytes before in
    taken_headless _ _ _ t c.in-Some.line.now c.in-Some.after.now c.in-Some.ensures.parts (c.in-Err.ensures.bad_header t.done t.stands bad)

pub lines-preserved : goal.lines-preserved
lines-preserved c = record {
  few = omega (arith, c.lines.invariant.few, c.in-Some.ensures.shorter, c.end_line.ensures.count);
  taken = λ bytes before.
      let t = c.lines.invariant.taken bytes before in
      taken_line _ _ _ t c.in-Some.line.now c.in-Some.after.now c.in-Some.ensures.parts c.end_line.new.self c.in_default-end_line.ensures.part c.end_line.ensures.count
      (c.in_default-end_line.ensures.stands t.done t.stands t.count);
}

pub returns-in-Ok-clause-taken : goal.returns-in-Ok-clause-taken
returns-in-Ok-clause-taken c = λ bytes before.
    taken_kept _ _ _ (c.lines.invariant.taken bytes before) c.in_default.ensures.parts c.keep.new.self c.in-Ok.ensures.part c.keep.ensures.count c.keep.ensures.stage
