use Rattle.std.proofs.Common.{length, set, ap, sym, ◌∙◌, arith}
use Rattle.stability_matrix.specs.Fields.{rows_of}
use Rattle.stability_matrix.specs.Rows.{Known}
use Rattle.stability_matrix.proofs.Entries.{noted_own, told_apart, told_same}
use Rattle.stability_matrix.proofs.Kept.{length-rows_of, known-after, kept-noted, stable-after, stable-kept_of}
use Rattle.stability_matrix.proofs.Standing.{keeps_noted_own, keeps_stable}
use Rattle.stability_matrix.proofs.matrix.Matrix.note_own_moving.Goals as goal

pub invariant_of-self : goal.invariant_of-self
invariant_of-self c =
    let m = c.self.inside in
    let len = length-rows_of m c.self.invariant in
    kept-noted m c.self.invariant m.me c.args.tag.now c.set_row-stable.new.rows c.set_row-stable.result
    (omega (arith, c.requires, ap (λ known. length known.rows) c.self.view_is, len))
    (c.set_row-stable.ensures.rows ∙ sym (noted_own m.me c.args.tag.now (rows_of m) (omega (arith, len, c.self.invariant.member))))
    (omega (arith, c.set_row-stable.auto.rows, len)) c.set_row-stable.ensures.least

pub returns-clause-known : goal.returns-clause-known
returns-clause-known c =
    let m = c.self.inside in
    let tag = c.args.tag.now in
    keeps_noted_own tag c.args.self.now _
    (known-after m c.self.invariant c.set_row-stable.new.rows c.set_row-stable.result (omega (arith, c.set_row-stable.auto.rows, length-rows_of m c.self.invariant))
    ∙ ap (λ rows. record { me = m.me; rows = rows }) c.set_row-stable.ensures.rows ∙ ap (λ (known : Known). record { me = known.me; rows = set known.rows known.me tag }) c.self.view_is)

pub returns-clause-moved : goal.returns-clause-moved
returns-clause-moved c =
    let m = c.self.inside in
    let now = stable-after m c.self.invariant c.set_row-stable.new.rows c.set_row-stable.result (omega (arith, c.set_row-stable.auto.rows, length-rows_of m c.self.invariant)) c.set_row-stable.ensures.least in
    let was = stable-kept_of m c.self.invariant _ c.self.view_is in
    let told = told_apart c.set_row-stable.result m.stable c.ne-moved.result c.ne-moved.ensures in
    ((λ true same. told.0 true (now ∙ same ∙ sym was)), (λ differ. told.1 (λ same. differ (sym now ∙ same ∙ was))))

pub returns-clause-stays : goal.returns-clause-stays
returns-clause-stays c = λ unmoved.
    let m = c.self.inside in
    let now = stable-after m c.self.invariant c.set_row-stable.new.rows c.set_row-stable.result (omega (arith, c.set_row-stable.auto.rows, length-rows_of m c.self.invariant)) c.set_row-stable.ensures.least in
    keeps_stable c.args.self.now _ (sym now ∙ told_same c.set_row-stable.result m.stable c.ne-moved.result c.ne-moved.ensures unmoved ∙ stable-kept_of m c.self.invariant _ c.self.view_is)
