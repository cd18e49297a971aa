use Rattle.std.proofs.Common.{sym, ◌∙◌}
use Rattle.store_program.proofs.Ending.{all_lines, concludes_stopped, concludes_opening, concludes_fine, concludes_unwritten}
use Rattle.store_program.proofs.run.finish.Goals as goal

pub returns-in-Err : goal.returns-in-Err
returns-in-Err g c = λ bytes old before fed.
    concludes_stopped c.in-Err.status bytes _ old _ before _ (all_lines _ bytes _ old _ before _ fed) (c.in-Err.ensures.goes _ old before fed.goes)

pub returns-then-is_opening : goal.returns-then-is_opening
returns-then-is_opening g c = λ bytes old before fed.
    concludes_opening bytes _ (all_lines _ bytes _ old _ before _ fed) _ old _ old before _ 0 _ (c.in_default.ensures.goes _ old before fed.goes) (sym c.is_opening.ensures ∙ c.if-is_opening.true)

pub returns-in-Ok : goal.returns-in-Ok
returns-in-Ok g c = λ bytes old before fed.
    let goes = c.in_default.ensures.goes _ old before fed.goes in
    concludes_fine bytes _ (all_lines _ bytes _ old _ before _ fed) _ old _ _ before _ 0 _ goes (sym c.is_opening.ensures ∙ c.if-is_opening.false) (c.in-Ok.ensures.ok old goes.written goes.took)

pub returns-in-Err-flush : goal.returns-in-Err-flush
returns-in-Err-flush g c = λ bytes old before fed.
    let goes = c.in_default.ensures.goes _ old before fed.goes in
    concludes_unwritten bytes _ (all_lines _ bytes _ old _ before _ fed) _ old _ _ before _ _ _ _ c.in-Err-flush.ensures.status goes c.in-Err-flush.ensures.some (c.in-Err-flush.ensures.front old goes.written goes.took) c.in-Err-flush.ensures.fault
