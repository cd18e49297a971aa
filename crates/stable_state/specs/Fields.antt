-- A shelf's fields.
use Rattle.std.specs.Prelude.{◌≡◌, ◌-◌, map, min, length, vec_capacity}
use Rattle.slab.specs.Slab.{get, slab_len}
use Rattle.stable_state.specs.Filled.{empties}
use Rattle.stable_state.specs.Shelf.{Shelved}
use Rattle.stable_state.specs.Slots.{items_in, IsOrdered}
use Rattle.stable_state.specs.declared.shelf.Shelf.TheInside.{Inside}

-- the items in the order of their slots, what stands in the touched slots, and as many more as each list has room for
abbrev pub shelved : Inside → Shelved
shelved s = record {
  items = items_in s.slots s.order.items;
  slots = s.order.items;
  touched = map (get s.slots) s.touched.items;
  spare = min (s.slots.capacity - slab_len s.slots) (min s.order.spare (vec_capacity s.touched - length s.touched.items));
}

-- slots hold exactly the items of the order, which rise, and those that have neither a mark nor a sum are counted
pub record IsShelved (s : Inside) : Type 0 where
  pub ordered : IsOrdered s.slots s.order.items
  pub counted : s.empties ≡ empties (items_in s.slots s.order.items)
