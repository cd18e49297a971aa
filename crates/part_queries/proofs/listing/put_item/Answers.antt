use Rattle.std.proofs.Common.{◌≡◌, ◌∷◌, [], length, sym, ap, subst, ◌∙◌}
use Rattle.std.proofs.lemmas.Bool.{eqb-true}
use Rattle.part_queries.specs.Finds.{AreRising}
use Rattle.part_queries.specs.Headed.{founds}
use Rattle.part_queries.proofs.Groups.{no_items}
use Rattle.part_queries.proofs.NextValue.{rising_alone, listed_own}
use Rattle.part_queries.proofs.listing.put_item.Goals as goal

pub returns-then-is_empty-clause-listed : goal.returns-then-is_empty-clause-listed
returns-then-is_empty-clause-listed c = λ on off whole behind behind' start.
    let finds = c.args.finds.now in
    let empty : founds finds ≡ [] = ap founds (no_items finds (eqb-true (length finds) 0 (sym c.is_empty.ensures ∙ c.if-is_empty.true))) in
    listed_own c.args.kind c.args.own on off whole behind behind' (founds finds) c.args.values.now.items c.put_in.new.values.items
    (subst (λ fs. AreRising (c.args.own ∷ fs)) (sym empty) (rising_alone c.args.own)) c.in_ok-put_in.ensures start
