use Rattle.std.proofs.Common.{◌≡◌, ◌<◌, length, ap, refl, sym, subst, ◌∙◌, arith}
use Rattle.std.proofs.lemmas.Bool.{and_parts}
use Rattle.op_base.specs.Timestamp.{entry}
use Rattle.stability_matrix.specs.Fields.{rows_of}
use Rattle.stability_matrix.specs.Rows.{row_of, stable_of, noted}
use Rattle.stability_matrix.proofs.Kept.{length-rows_of, square-rows_of, length-stable, row-kept, length-row}
use Rattle.stability_matrix.proofs.Renewals.{stays-is, stable-kept}
use Rattle.stability_matrix.proofs.matrix.Matrix.keeps_least.Goals as goal

pub at-own-requires : goal.at-own-requires
at-own-requires c =
    let m = c.self.inside in
    let there : c.args.origin < m.n = omega (arith, c.requires.origin, ap (λ known. length known.rows) c.self.view_is, length-rows_of m c.self.invariant) in
    omega (arith, there, length-row m c.self.invariant m.me c.index-self-self.result c.self.invariant.member)

pub is_below_changes-requires-clause-from : goal.is_below_changes-requires-clause-from
is_below_changes-requires-clause-from c =
    let m = c.self.inside in
    let there : c.args.origin < m.n = omega (arith, c.requires.origin, ap (λ known. length known.rows) c.self.view_is, length-rows_of m c.self.invariant) in
    omega (arith, length-row m c.self.invariant c.args.origin c.index-self-origin.result there, length-stable m c.self.invariant)

pub is_below_changes-requires-clause-to : goal.is_below_changes-requires-clause-to
is_below_changes-requires-clause-to c =
    let m = c.self.inside in
    omega (arith, c.requires.entries, ap (λ known. length known.rows) c.self.view_is, length-rows_of m c.self.invariant, length-stable m c.self.invariant)

pub at-requires : goal.at-requires
at-requires c =
    let m = c.self.inside in
    omega (arith, c.requires.origin, ap (λ known. length known.rows) c.self.view_is, length-rows_of m c.self.invariant, length-stable m c.self.invariant)

pub returns : goal.returns
returns c = λ true.
    let m = c.self.inside in
    let rows = rows_of m in
    let origin = c.args.origin in
    let tag = c.args.tag.now in
    let len : length rows ≡ m.n = length-rows_of m c.self.invariant in
    let same : length rows ≡ length c.args.self.now.rows = ap (λ known. length known.rows) c.self.view_is in
    let there : origin < length rows = omega (arith, c.requires.origin, same) in
    let row = row-kept m c.self.invariant origin c.index-self-origin.result (omega (arith, there, len)) in
    let own_row = row-kept m c.self.invariant m.me c.index-self-self.result c.self.invariant.member in
    let stays = stable-kept m.me origin tag rows (omega (arith, c.self.invariant.member, len)) there (square-rows_of m c.self.invariant) (c.requires.entries ∙ sym same)
    (λ x l. stays-is (entry m.stable x) _ (entry tag x) (entry (stable_of rows) x) (entry (row_of rows origin) x) (entry tag x)
    (ap (λ stable. entry stable x) (sym c.self.invariant.least)) (ap (λ r. entry r x) (sym row)) refl (c.is_below_changes.ensures.0 (and_parts _ _ true).0 x (omega (arith, l, len, length-stable m c.self.invariant))))
    (stays-is c.at.result c.at-own.result c.at-2.result (entry (stable_of rows) origin) (entry (row_of rows m.me) origin) (entry tag origin)
    (ap (λ stable. entry stable origin) (sym c.self.invariant.least) ∙ sym c.at.ensures) (ap (λ r. entry r origin) (sym own_row) ∙ sym c.at-own.ensures) (sym c.at-2.ensures) (c.least_stays.ensures (and_parts _ _ true).1)) in
    subst (λ known. stable_of (noted known.me origin tag known.rows) ≡ stable_of known.rows) c.self.view_is stays
