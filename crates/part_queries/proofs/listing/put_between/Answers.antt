use Rattle.std.proofs.Common.{◌≡◌, ◌∷◌, ◌+◌, ◌||◌, drop, sym, ap, subst, ◌∙◌, arith}
use Rattle.std.proofs.lemmas.List.{drop_all}
use Rattle.part_queries.specs.Finds.{or_put, or_taken, AreRising, AreListed}
use Rattle.part_queries.specs.Headed.{founds}
use Rattle.part_queries.specs.declared.found.Found.{Found}
use Rattle.part_queries.specs.declared.marks.Marks.{Marks}
use Rattle.part_queries.proofs.NextValue.{AreListedBut, finds_from, rising_later, rising_alone, rising_own_before, listed_before, listed_same, listed_own}
use Rattle.part_queries.proofs.listing.put_between.Goals as goal
use Rattle.part_queries.proofs.listing.put_between.Goals.{in-Less+in_ok-put_in-in-Less, in-Equal, else-loop-find-test, then-loop-find-test+in-Greater}

pub loop-find-preserved : goal.loop-find-preserved
loop-find-preserved c =
    let finds = c.args.finds.now in
    let i = c.loop-find.find-index in
    let find = c.find-item.result in
    let found = find.found in
    let value = c.args.own.value.now in
    let kind = c.args.kind in
    let rest = founds (drop (i + 1) finds) in
    let e : founds (drop i finds) ≡ found ∷ rest = ap founds (finds_from finds i find c.loop-find-test.true c.find-item.is) in
    record {
      count = omega (arith, c.loop-find.invariant.count);
      rise = rising_later found rest (founds (drop i finds)) e c.loop-find.invariant.rise;
      listed = λ on off whole behind behind' start.
          let so_far = subst (λ fs. AreListedBut kind value c.loop-find.marks on off fs whole c.loop-find.values.items) e (c.loop-find.invariant.listed on off whole behind behind' start) in
          elim c.match-cmp.branch [
            | in-Less+in_ok-put_in-in-Less w ↦
                subst (λ marks. AreListedBut kind value marks on off rest whole c.match-cmp.values.items) (sym w.marks-is)
                (listed_before kind value on off whole behind behind' c.loop-find.marks found rest c.loop-find.values.items c.match-cmp.values.items (subst AreRising e c.loop-find.invariant.rise) (sym c.cmp.ensures ∙ w.in-Less.is) (ap (λ v. v.items) w.values-is ∙ w.in_ok-put_in-in-Less.ensures) so_far)
            | in-Equal w ↦
                let marks : Marks = record { put = c.loop-find.marks.put || found.marks.put; taken = c.loop-find.marks.taken || found.marks.taken } in
                subst (λ marks. AreListedBut kind value marks on off rest whole c.match-cmp.values.items) (sym (w.marks-is ∙ w.join-marks.ensures))
                (subst (λ values. AreListedBut kind value marks on off rest whole values) (ap (λ v. v.items) (sym w.values-is)) (listed_same kind value on off whole behind behind' c.loop-find.marks found rest c.loop-find.values.items (sym c.cmp.ensures ∙ w.in-Equal.is) so_far))
          ];
    }

pub returns-clause-listed : goal.returns-clause-listed
returns-clause-listed c = λ on off whole behind behind' start.
    let finds = c.args.finds.now in
    let i = c.loop-find.find-index in
    let own : Found = record { value = c.args.own.value; marks = c.loop-find.marks } in
    let rising : AreRising (own ∷ founds (drop i finds)) = elim c.loop-find-test.branch [
      | else-loop-find-test w ↦ subst (λ fs. AreRising (own ∷ fs)) (ap founds (sym (drop_all i finds w.loop-find-test.false))) (rising_alone own)
      | then-loop-find-test+in-Greater w ↦
          let e : founds (drop i finds) ≡ w.find-item.result.found ∷ founds (drop (i + 1) finds) = ap founds (finds_from finds i w.find-item.result w.loop-find-test.true w.find-item.is) in
          subst (λ fs. AreRising (own ∷ fs)) (sym e) (rising_own_before own w.find-item.result.found (founds (drop (i + 1) finds)) (sym w.cmp.ensures ∙ w.in-Greater.is) (subst AreRising e c.loop-find.invariant.rise))
    ] in
    subst (λ n. AreListed c.args.kind (or_put on (founds (drop n finds))) (or_taken off (founds (drop n finds))) whole c.put_in-2.new.values.items) (sym c.loop-find.invariant.count)
    (listed_own c.args.kind own on off whole behind behind' (founds (drop i finds)) c.loop-find.values.items c.put_in-2.new.values.items rising c.in_ok-put_in.ensures (c.loop-find.invariant.listed on off whole behind behind' start))
