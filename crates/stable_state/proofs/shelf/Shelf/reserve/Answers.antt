use Rattle.std.proofs.Common.{◌≡◌, ℕ, List, refl, sym, ◌∙◌}
use Rattle.op_base.specs.declared.outcome.Item.{Item}
use Rattle.slab.specs.Slab.{Slab}
use Rattle.stable_state.specs.Filled.{empties}
use Rattle.stable_state.specs.Slots.{items_in}
use Rattle.stable_state.proofs.Ordered.{more_room}
use Rattle.stable_state.proofs.shelf.Shelf.reserve.Goals as goal

-- more room leaves the count of items that aren't filled
same_count : (old new : Slab Item) (order order' : List ℕ) (count : ℕ) → new ≡ record old { capacity = new.capacity } → order' ≡ order → count ≡ empties (items_in old order) → count ≡ empties (items_in new order')
same_count old new order order' count is order_is counted = counted ∙ (λ i. empties (items_in (record old { capacity = new.capacity }) (sym order_is i))) ∙ (λ i. empties (items_in (sym is i) order'))

pub invariant_of-self : goal.invariant_of-self
invariant_of-self c = record {
  ordered = more_room _ _ _ _ c.reserve.ensures.capacity c.reserve.ensures.rest_kept refl c.self.invariant.ordered;
  counted = same_count c.self.inside.slots c.reserve.new.self c.self.inside.order.items c.self.inside.order.items c.self.inside.empties c.reserve.ensures.rest_kept refl c.self.invariant.counted;
}

pub invariant_of-self-in_err-reserve-2 : goal.invariant_of-self-in_err-reserve-2
invariant_of-self-in_err-reserve-2 c = record {
  ordered = more_room _ _ _ _ c.reserve.ensures.capacity c.reserve.ensures.rest_kept c.reserve-2.ensures.items c.self.invariant.ordered;
  counted = same_count c.self.inside.slots c.reserve.new.self c.self.inside.order.items c.reserve-2.new.self.items c.self.inside.empties c.reserve.ensures.rest_kept c.reserve-2.ensures.items c.self.invariant.counted;
}

pub invariant_of-self-in_err-reserve-3 : goal.invariant_of-self-in_err-reserve-3
invariant_of-self-in_err-reserve-3 c = record {
  ordered = more_room _ _ _ _ c.reserve.ensures.capacity c.reserve.ensures.rest_kept c.reserve-2.ensures.items c.self.invariant.ordered;
  counted = same_count c.self.inside.slots c.reserve.new.self c.self.inside.order.items c.reserve-2.new.self.items c.self.inside.empties c.reserve.ensures.rest_kept c.reserve-2.ensures.items c.self.invariant.counted;
}

pub invariant_of-self-2 : goal.invariant_of-self-2
invariant_of-self-2 c = record {
  ordered = more_room _ _ _ _ c.reserve.ensures.capacity c.reserve.ensures.rest_kept c.reserve-2.ensures.items c.self.invariant.ordered;
  counted = same_count c.self.inside.slots c.reserve.new.self c.self.inside.order.items c.reserve-2.new.self.items c.self.inside.empties c.reserve.ensures.rest_kept c.reserve-2.ensures.items c.self.invariant.counted;
}
