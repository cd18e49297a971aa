use Rattle.std.proofs.Common.{◌≡◌, ℕ, List, Option, Some, None, is_some, unwrap_or, option_copied, false, true≢false, refl, length, ap, sym, ◌∙◌, arith}
use Rattle.stability_matrix.specs.Rows.{Known, stable_of, noted}
use Rattle.stability_matrix.proofs.Kept.{length-rows_of, known-after, kept-noted, stable-after, stable-kept_of}
use Rattle.stability_matrix.proofs.Standing.{keeps_noted, keeps_stable}
use Rattle.stability_matrix.proofs.matrix.Matrix.note_moved.Goals as goal

pub invariant_of-self : goal.invariant_of-self
invariant_of-self c =
    let m = c.self.inside in
    let len = length-rows_of m c.self.invariant in
    kept-noted m c.self.invariant c.args.origin c.args.tag.now c.note_in.new.rows c.become_moved.new.stable
    (omega (arith, c.requires.entries, ap (λ known. length known.rows) c.self.view_is, len)) c.note_in.ensures (omega (arith, c.note_in.auto.rows, len))
    (c.become_moved.ensures ∙ ap (unwrap_or (option_copied c.args.moved)) (stable-kept_of m c.self.invariant _ c.self.view_is) ∙ c.requires.moved
    ∙ ap (λ known. stable_of (noted known.me c.args.origin c.args.tag.now known.rows)) (sym c.self.view_is) ∙ ap stable_of (sym c.note_in.ensures))

pub returns-clause-known : goal.returns-clause-known
returns-clause-known c =
    let m = c.self.inside in
    let origin = c.args.origin in
    let tag = c.args.tag.now in
    keeps_noted origin tag c.args.self.now _ c.requires.origin c.requires.other
    (known-after m c.self.invariant c.note_in.new.rows c.become_moved.new.stable (omega (arith, c.note_in.auto.rows, length-rows_of m c.self.invariant))
    ∙ ap (λ rows. record { me = m.me; rows = rows }) c.note_in.ensures ∙ ap (λ (known : Known). record { me = known.me; rows = noted known.me origin tag known.rows }) c.self.view_is)

-- where nothing is moved to, what is moved to is what there was
stays_unmoved : (moved : Option (List ℕ)) (stable : List ℕ) → is_some moved ≡ false → unwrap_or moved stable ≡ stable
stays_unmoved None stable none = refl
stays_unmoved (Some s) stable none = absurd (true≢false none)

pub returns-clause-stays : goal.returns-clause-stays
returns-clause-stays c = λ unmoved.
    let m = c.self.inside in
    let old = c.args.self.now in
    keeps_stable old _ (sym (stable-after m c.self.invariant c.note_in.new.rows _ (omega (arith, c.note_in.auto.rows, length-rows_of m c.self.invariant)) refl) ∙ ap stable_of c.note_in.ensures
    ∙ ap (λ (known : Known). stable_of (noted known.me c.args.origin c.args.tag.now known.rows)) c.self.view_is ∙ sym c.requires.moved ∙ stays_unmoved (option_copied c.args.moved) (stable_of old.rows) unmoved)
