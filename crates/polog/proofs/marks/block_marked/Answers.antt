use Rattle.std.proofs.Common.{◌≡◌, ◌+◌, ◌-◌, drop, inl, inr, get_or, get_or-drop, length-drop, length-take, ap, ◌∙◌, arith}
use Rattle.std.specs.Prelude.{slice_range}
use Rattle.std.proofs.lemmas.Bool.{cases_lt}
use Rattle.std.proofs.lemmas.List.{get_or-take}
use Rattle.polog.specs.declared.marks.Stamp.{Stamp}
use Rattle.polog.proofs.marks.block_marked.Goals as goal

pub loop-at-preserved : goal.loop-at-preserved
loop-at-preserved c =
    let stamps = c.args.stamps.now in
    let at = c.loop-at.at in
    record {
      least = omega (arith, c.loop-at.invariant.least);
      most = omega (arith, c.loop-at-test.true, c.loop-at.invariant.most);
      passed = λ k d above below. elim (cases_lt k at) [
        | inl before ↦ c.loop-at.invariant.passed k d above before
        | inr after ↦ λ is.
            let there : at + (k - at) ≡ k = omega (arith, after) in
            let read : get_or (slice_range stamps at (at + 8)) (k - at) d ≡ get_or stamps k d =
            get_or-take (at + 8 - at) (drop at stamps) (k - at) d (omega (arith, after, below)) ∙ get_or-drop at stamps (k - at) d ∙ ap (λ j. get_or stamps j d) there in
            c.is_among.ensures c.if-not-is_among.true (k - at) d
            (omega (arith, after, below, length-take (at + 8 - at) (drop at stamps), length-drop at stamps, c.loop-at-test.true, c.loop-at.invariant.most, c.requires.places))
            (ap (λ (s : Stamp). s.mark) read ∙ is)
      ];
    }
