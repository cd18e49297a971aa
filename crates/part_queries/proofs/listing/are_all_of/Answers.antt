use Rattle.std.proofs.Common.{◌≡◌, ◌-◌, sym, subst, ◌∙◌, slice_index_or, arith}
use Rattle.causal_model.proofs.Answers.Rules.{object_from_same}
use Rattle.part_queries.proofs.Cells.{all_of_object, item_is}
use Rattle.part_queries.proofs.listing.are_all_of.Goals as goal

pub returns-then-is_same : goal.returns-then-is_same
returns-then-is_same g c = λ t.
    let items = g.V.ItemView.items c.args.items.now in
    let object = c.args.object.now in
    all_of_object items object (g.met.V.ItemView.rise c.args.items.now) (omega (arith, c.len-len.ensures, c.if-len-eq0.false))
    (λ d. item_is items 0 _ _ _ c.item_at.ensures d ∙ object_from_same c.item_at.result.0.now object (sym c.is_same.ensures ∙ c.if-is_same.true))
    (λ d. subst (λ n. (slice_index_or items (n - 1) d).object ≡ object) c.len-len.ensures (item_is items (c.len-len.result - 1) _ _ _ c.item_at-2.ensures d ∙ object_from_same c.item_at-2.result.0.now object (sym c.is_same-then-is_same.ensures ∙ t)))
