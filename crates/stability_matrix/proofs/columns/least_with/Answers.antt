use Rattle.std.proofs.Common.{◌≡◌, ◌<◌, [], length, set, length-set, ap, sym, ◌∙◌, inl, inr, arith}
use Rattle.std.proofs.lemmas.List.{get_or_default}
use Rattle.op_base.specs.Timestamp.{entry}
use Rattle.stability_matrix.specs.Rows.{row_of, column_of, noted}
use Rattle.stability_matrix.proofs.Entries.{length-column, get_or-column, is_stable_of}
use Rattle.stability_matrix.proofs.Minimums.{least-done, beside_start, beside_skip, beside_more}
use Rattle.stability_matrix.proofs.Renewals.{length-noted, noted-origin, noted-own, noted-others}
use Rattle.stability_matrix.proofs.columns.least_with.Goals as goal
use Rattle.stability_matrix.proofs.columns.least_with.Goals.{then-y-origin-via-then-y-origin, then-y-origin-via-else-y-origin+then-y-me}

pub loop-y-init : goal.loop-y-init
loop-y-init c =
    let rows = c.args.rows.now in
    let me = c.args.me in
    let origin = c.args.origin in
    let tag = c.args.tag.now in
    let after = noted me origin tag rows in
    let count = length-noted me origin tag rows in
    let in_me : me < length after = omega (arith, c.requires.own, count) in
    let in_origin : origin < length after = omega (arith, c.requires.origin, count) in
    let row : c.index-rows-me.result ≡ row_of rows me = c.index-rows-me.is ∙ get_or_default rows me c.index-rows-me.result [] c.requires.own in
    let own : c.raised-own.result ≡ row_of after me = c.raised-own.ensures ∙ (λ i. set (row i) origin (entry tag origin)) ∙ sym (noted-own me origin tag rows c.requires.own c.requires.origin c.requires.other) in
    let square : length c.index-rows-me.result ≡ length rows = ap length row ∙ c.requires.square me [] c.requires.own in
    record {
      members = c.meet-least.ensures.members ∙ ap length c.raised-own.ensures ∙ length-set c.index-rows-me.result origin (entry tag origin) ∙ square;
      so_far = λ x l.
          beside_start (column_of after x) me origin (entry c.raised-own.result x) (entry tag x) (entry c.meet-least.result x)
          (omega (arith, in_me, length-column after x)) (omega (arith, in_origin, length-column after x))
          (ap (λ r. entry r x) own ∙ sym (get_or-column after x me in_me))
          (ap (λ r. entry r x) (sym (noted-origin me origin tag rows c.requires.own c.requires.origin c.requires.other)) ∙ sym (get_or-column after x origin in_origin))
          (c.meet-least.ensures.entries x);
    }

pub loop-y-preserved-then-y-origin : goal.loop-y-preserved-then-y-origin
loop-y-preserved-then-y-origin c =
    let after = noted c.args.me c.args.origin c.args.tag.now c.args.rows.now in
    record {
      members = c.loop-y.invariant.members;
      so_far = λ x l. beside_skip (column_of after x) c.args.me c.args.origin (entry c.loop-y.least x) c.loop-y.y (c.loop-y.invariant.so_far x l) (elim c.then-y-origin.branch [
        | then-y-origin-via-then-y-origin w ↦ inr (omega (arith, w.if-y-origin.true))
        | then-y-origin-via-else-y-origin+then-y-me w ↦ inl (omega (arith, w.if-y-me.true))
      ]);
    }

pub loop-y-preserved : goal.loop-y-preserved
loop-y-preserved c =
    let rows = c.args.rows.now in
    let me = c.args.me in
    let origin = c.args.origin in
    let tag = c.args.tag.now in
    let after = noted me origin tag rows in
    let y = c.loop-y.y in
    let within : y < length after = omega (arith, c.loop-y-test.true, length-noted me origin tag rows) in
    let row : c.index-rows-y.result ≡ row_of after y =
    c.index-rows-y.is ∙ get_or_default rows y c.index-rows-y.result [] (omega (arith, c.loop-y-test.true))
    ∙ sym (noted-others me origin tag rows c.requires.own c.requires.origin c.requires.other y (λ e. omega (arith, c.if-y-origin.false, e)) (λ e. omega (arith, c.if-y-me.false, e))) in
    record {
      members = c.meet-least-in-loop-y.ensures.members ∙ c.loop-y.invariant.members;
      so_far = λ x l.
          beside_more (column_of after x) me origin (entry c.loop-y.least x) y (entry c.index-rows-y.result x) (entry c.meet-least-in-loop-y.result x) (c.loop-y.invariant.so_far x l)
          (omega (arith, within, length-column after x)) (ap (λ r. entry r x) row ∙ sym (get_or-column after x y within)) (c.meet-least-in-loop-y.ensures.entries x);
    }

pub returns : goal.returns
returns c =
    let rows = c.args.rows.now in
    let after = noted c.args.me c.args.origin c.args.tag.now rows in
    let count = length-noted c.args.me c.args.origin c.args.tag.now rows in
    is_stable_of after c.loop-y.least (c.loop-y.invariant.members ∙ sym count)
    (λ x l. sym (least-done (column_of after x) (entry c.loop-y.least x) c.loop-y.y (c.loop-y.invariant.so_far x (omega (arith, l, count))).so_far (omega (arith, c.loop-y-test.false, length-column after x, count))))
