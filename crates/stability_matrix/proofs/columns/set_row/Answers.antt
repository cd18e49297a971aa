use Rattle.std.proofs.Common.{◌≡◌, ◌+◌, ◌<◌, [], length, length-set, set, ap, refl, sym, subst, ◌∙◌, arith}
use Rattle.std.proofs.lemmas.List.{get_or_default}
use Rattle.op_base.specs.Timestamp.{entry}
use Rattle.causal_model.specs.Stability.{minimum}
use Rattle.stability_matrix.specs.Rows.{row_of, column_of}
use Rattle.stability_matrix.proofs.Entries.{entry-stable_of, length-stable_of, is_stable_of}
use Rattle.stability_matrix.proofs.Renewals.{AreRenewed, stays-is, column-stays, one_stays, one_is_computed}
use Rattle.stability_matrix.proofs.columns.set_row.Goals as goal
use Rattle.stability_matrix.proofs.columns.set_row.Goals.{then-not-least_stays, else-not-least_stays}

pub loop-x-init : goal.loop-x-init
loop-x-init c = record { members = refl; done = λ k l. absurd (omega (arith, l)); rest = λ k l. refl }

pub at-requires : goal.at-requires
at-requires c =
    omega (arith, c.loop-x-test.true, c.members-x-end.ensures.members, c.requires.entries, ap length c.requires.least, length-stable_of c.args.rows.now)

pub set-requires : goal.set-requires
set-requires c =
    omega (arith, c.loop-x-test.true, c.members-x-end.ensures.members, c.requires.entries, ap length c.requires.least, length-stable_of c.args.rows.now, c.loop-x.invariant.members)

pub loop-x-preserved : goal.loop-x-preserved
loop-x-preserved c =
    let rows = c.args.rows.now in
    let y = c.args.member in
    let tag = c.args.tag.now in
    let before = c.args.before.now in
    let x = c.loop-x.x in
    let within : x < length rows = omega (arith, c.loop-x-test.true, c.members-x-end.ensures.members, c.requires.entries) in
    let known : x < length before = omega (arith, within, ap length c.requires.least, length-stable_of rows) in
    let was : entry before x ≡ minimum (column_of rows x) = ap (λ least. entry least x) c.requires.least ∙ entry-stable_of rows x within in
    let row = c.index-rows-member.is ∙ get_or_default rows y c.index-rows-member.result [] c.requires.member in
    elim c.if-not-least_stays.branch [
      | then-not-least_stays w ↦ subst (λ least. AreRenewed (set rows y tag) before least (x + 1)) (sym (w.least-is ∙ w.set.ensures))
          (one_is_computed (set rows y tag) before c.loop-x.least x c.loop-x.invariant w.least_in.result known w.least_in.ensures)
      | else-not-least_stays w ↦ subst (λ least. AreRenewed (set rows y tag) before least (x + 1)) (sym w.least-is)
          (one_stays (set rows y tag) before c.loop-x.least x c.loop-x.invariant
          (column-stays rows y tag x c.requires.member
          (stays-is c.at.result c.at-in-loop-x.result c.at-in-loop-x-2.result (minimum (column_of rows x)) (entry (row_of rows y) x) (entry tag x)
          (sym was ∙ sym c.at.ensures) (ap (λ r. entry r x) (sym row) ∙ sym c.at-in-loop-x.ensures) (sym c.at-in-loop-x-2.ensures) (c.least_stays.ensures w.if-not-least_stays.false))
          ∙ sym was))
    ]

pub returns-clause-least : goal.returns-clause-least
returns-clause-least c =
    let rows = c.args.rows.now in
    let after = set rows c.args.member c.args.tag.now in
    let long : length after ≡ length rows = length-set rows c.args.member c.args.tag.now in
    let known : length c.args.before.now ≡ length rows = ap length c.requires.least ∙ length-stable_of rows in
    is_stable_of after c.loop-x.least (c.loop-x.invariant.members ∙ known ∙ sym long)
    (λ x l. c.loop-x.invariant.done x (omega (arith, l, long, c.loop-x-test.false, c.members-x-end.ensures.members, c.requires.entries)))
