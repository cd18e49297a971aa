use Rattle.std.proofs.Common.{◌≡◌, ◌-◌, ◌<◌, false, get_or, sym, ◌∙◌, arith}
use Rattle.std.proofs.lemmas.Bool.{not-true}
use Rattle.polog.specs.Value.{is_of}
use Rattle.polog.proofs.Places.{any-of}
use Rattle.polog.proofs.Spans.{span-told}
use Rattle.polog.proofs.search.is_span.Goals as goal
use Rattle.polog.proofs.search.is_span.Goals.{else-from-gt0-via-then-from-gt0+else-is_at, else-from-gt0-via-else-from-gt0}

pub returns : goal.returns
returns c holds =
    let es = c.args.entries.now in
    let object = c.args.object.now in
    let from = c.args.from in
    let to = c.args.to in
    let there = c.is_at.ensures.inside c.if-not-is_at.false in
    let d = any-of es (omega (arith, there)) in
    let last = c.is_at-else-not-is_at.ensures.inside c.if-not-is_at-2.false in
    let some : from < to = omega (arith, c.if-from-to.false) in
    let before : 0 < from → is_of object (get_or es (from - 1) d) ≡ false = elim c.else-from-gt0.branch as (λ _. 0 < from → is_of object (get_or es (from - 1) d) ≡ false) [
      | else-from-gt0-via-then-from-gt0+else-is_at w ↦ λ l. sym (w.is_at-then-from-gt0.ensures.of (omega (arith, there)) d) ∙ w.if-is_at.false
      | else-from-gt0-via-else-from-gt0 w ↦ λ l. absurd (omega (arith, l, w.if-from-gt0.false))
    ] in
    span-told object es from to d c.requires some (omega (arith, last, some))
    (sym (c.is_at.ensures.of there d) ∙ c.if-not-is_at.false)
    (sym (c.is_at-else-not-is_at.ensures.of last d) ∙ c.if-not-is_at-2.false)
    before
    (λ l. sym (c.is_at-2.ensures.of l d) ∙ not-true c.is_at-2.result holds)
