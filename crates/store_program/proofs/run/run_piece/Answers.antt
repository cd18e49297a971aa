use Rattle.store_program.proofs.Going.{piece_begins, piece_goes, piece_stops, piece_written, piece_without_memory}
use Rattle.store_program.proofs.run.run_piece.Goals as goal

pub lines-init : goal.lines-init
lines-init g c = λ bytes old before fed. piece_begins c.args.feed.now bytes c.args.piece.now c.args.out.now old _ before _ fed

pub returns-in-Err-clause-fed : goal.returns-in-Err-clause-fed
returns-in-Err-clause-fed g c = λ bytes old before fed.
    let p = c.lines.invariant bytes old before fed in
    piece_stops _ _ _ _ old _ before _ p c.in-Some.line.now c.in-Some.after.now c.in-Some.ensures.parts c.in-Err.status _ _ (c.in-Err.ensures.goes p.done old before p.goes)

pub lines-preserved : goal.lines-preserved
lines-preserved g c = λ bytes old before fed.
    let p = c.lines.invariant bytes old before fed in
    piece_goes _ _ _ _ old _ before _ p c.in-Some.line.now c.in-Some.after.now c.in-Some.ensures.parts c.run_line.new.feed c.run_line.new.out _ _ c.in_default-run_line.ensures.part
    (c.in_default-run_line.ensures.goes p.done old before p.goes)

pub returns-in-Err-keep-clause-fed : goal.returns-in-Err-keep-clause-fed
returns-in-Err-keep-clause-fed g c = λ bytes old before fed.
    let p = c.lines.invariant bytes old before fed in
    piece_without_memory _ _ _ _ old _ before _ p c.in_default.ensures.parts _ _ _ c.give_up.ensures.status (c.give_up.ensures.front old p.goes.written p.goes.took)

pub returns-in-Ok-clause-fed : goal.returns-in-Ok-clause-fed
returns-in-Ok-clause-fed g c = λ bytes old before fed.
    let p = c.lines.invariant bytes old before fed in
    piece_written _ _ _ _ old _ before _ p c.in_default.ensures.parts c.flush.result c.keep.new.self c.in-Ok.ensures.part c.in-Ok.ensures.stage _ _
    (c.flush.ensures.ok old p.goes.written p.goes.took) (c.flush.ensures.front old p.goes.written p.goes.took) c.flush.ensures.some c.flush.ensures.steady c.flush.ensures.fault c.flush.ensures.status
