use Rattle.std.proofs.Common.{◌<◌, [], length, ap, sym, ◌∙◌, arith}
use Rattle.std.proofs.lemmas.List.{get_or_default}
use Rattle.op_base.specs.Timestamp.{entry}
use Rattle.stability_matrix.specs.Rows.{column_of}
use Rattle.stability_matrix.proofs.Entries.{length-column, get_or-column}
use Rattle.stability_matrix.proofs.Minimums.{least-more, least-done}
use Rattle.stability_matrix.proofs.columns.least_in.Goals as goal

pub loop-row-preserved : goal.loop-row-preserved
loop-row-preserved c =
    let rows = c.args.rows.now in
    let x = c.args.x in
    let y = c.loop-row.row-index in
    let within : y < length rows = omega (arith, c.loop-row-test.true) in
    let row = c.row-item.is ∙ get_or_default rows y c.row-item.result [] within in
    least-more (column_of rows x) c.loop-row.least y c.at.result c.min-least.result c.loop-row.invariant (omega (arith, within, length-column rows x))
    (c.at.ensures ∙ ap (λ r. entry r x) row ∙ sym (get_or-column rows x y within)) c.min-least.ensures

pub returns : goal.returns
returns c =
    let rows = c.args.rows.now in
    sym (least-done (column_of rows c.args.x) c.loop-row.least c.loop-row.row-index c.loop-row.invariant (omega (arith, c.loop-row-test.false, length-column rows c.args.x)))
