use Rattle.std.proofs.Common.{◌+◌, ◌^◌, ◌≤◌, Some, refl, sym, ap, subst, ◌∙◌, add-one, arith}
use Rattle.list_type.specs.Putting.{IsAt}
use Rattle.list_type.proofs.Listings.{each_there}
use Rattle.list_type.proofs.lists.Lists.place.Goals as goal

pub overflow_add-result : goal.overflow_add-result
overflow_add-result c =
    let now = c.args.self.now in
    let s = c.in_ok-slot.ensures.stands in
    let node = c.get.ensures s.row s.before s.node s.after s.stands in
    let low = each_there now.rows now.chains c.args.object.now c.in_ok-slot.slot c.in-Some.id s (λ e. e.depth ≤ 2 ^ 63) (c.requires.deep c.args.object.now c.requires.kind) in
    omega (arith, low, ap (λ n. n.depth) node)

pub returns-clause-at : goal.returns-clause-at
returns-clause-at c =
    let now = c.args.self.now in
    let s = c.in_ok-slot.ensures.stands in
    let node = c.get.ensures s.row s.before s.node s.after s.stands in
    subst (λ place. IsAt now.rows now.chains c.args.object.now place (Some c.in_ok-slot.slot) (c.get.result.now.depth + 1)) (sym c.in-Some.is)
    (c.in_ok-slot.slot, s, refl, ap (λ n. n.depth + 1) node ∙ add-one s.node.depth)
