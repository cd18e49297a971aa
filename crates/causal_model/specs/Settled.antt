-- Settled items: what remains of the stable events of a history without their timestamps, as in the plain state of
-- Baquero, Almeida and Shoker (arXiv 1710.04469). Of `counter` the sum is over all events, stable or not. Each cell asks
-- all events of the history; no entry is moved step by step. The cells are this project's own profile.
use Rattle.std.specs.Prelude.{ℕ, Bool, false, not, ◌&&◌, ◌||◌, nat_lt, ℤ, pos, List, [], ◌∷◌, map, filter, fold, Option, Some, None, if◌then◌else◌}
use Rattle.std.specs.Ordering.{is_lt, is_eq}
use Rattle.std.specs.List.{list_any}
use Rattle.op_base.specs.Order.{item_cmp}
use Rattle.op_base.specs.declared.name.ObjectId.{ObjectId}
use Rattle.op_base.specs.declared.name.Kind.{Kind}
use Rattle.op_base.specs.declared.name.Kind.TheVariants.{AwSet, RwSet, EwFlag, DwFlag, MvReg, Counter, RCounter}
use Rattle.op_base.specs.declared.outcome.Cell.{Cell}
use Rattle.op_base.specs.declared.outcome.Item.{Item}
use Rattle.op_base.specs.declared.operation.Act.{Act}
use Rattle.op_base.specs.declared.operation.Op.{Op}
use Rattle.op_base.specs.declared.operation.Op.TheVariants as op
use Rattle.causal_model.specs.Acts.{is_add_of, is_rmv_of, is_write_of, is_enable, is_disable, value_of}
use Rattle.causal_model.specs.Covering.{store_covers}
use Rattle.causal_model.specs.Items.{is_filled}
use Rattle.causal_model.specs.Log.{is_covered_by}
use Rattle.causal_model.specs.Order.{is_followed}
use Rattle.causal_model.specs.History.{History, Event, epoch_of, events, is_before, is_act_on}
use Rattle.causal_model.specs.Query.{counter_sum}
use Rattle.causal_model.specs.Stability.{stable_vector, is_stable}

-- whether an event is stable: it is of an epoch that is over, or a stable message of the present one
abbrev pub is_stable_event : History → Event → Bool
is_stable_event h e = nat_lt e.epoch (epoch_of h) || is_stable (stable_vector h.present.n h.present.me h.present.messages) e.message

-- whether no event that happened after it covers an event
abbrev pub is_uncovered_event : List Event → Event → Bool
is_uncovered_event events e = not (is_followed is_before (λ later. is_covered_by store_covers e.message.op later.message.op) events e)

-- whether an event is stable and uncovered
abbrev pub is_settled : History → Event → Bool
is_settled h e = is_stable_event h e && is_uncovered_event (events h) e

-- whether an event is uncovered, and not stable
abbrev pub is_pending : History → Event → Bool
is_pending h e = not (is_stable_event h e) && is_uncovered_event (events h) e

-- a settled event does such an act to an object
abbrev pub has_settled : History → ObjectId → (Act → Bool) → Bool
has_settled h object passes = list_any (λ e. is_act_on object passes e && is_settled h e) (events h)

-- a pending event does such an act to an object
abbrev pub has_pending : History → ObjectId → (Act → Bool) → Bool
has_pending h object passes = list_any (λ e. is_act_on object passes e && is_pending h e) (events h)

-- the cell with an on mark alone
abbrev pub on_cell : Bool → Cell
on_cell on = record { on = on; off = false; sum = pos 0 }

-- the cell with a sum alone
abbrev pub sum_cell : ℤ → Cell
sum_cell sum = record { on = false; off = false; sum = sum }

-- The cell where what takes out wins. The off mark is there while a settled remove and a pending add are. The on mark is
-- there for a settled add, but where a settled remove is there and no pending add.
abbrev pub remove_wins_cell : Bool → Bool → Bool → Cell
remove_wins_cell settled_add settled_remove pending_add =
    record { on = settled_add && (not settled_remove || pending_add); off = settled_remove && pending_add; sum = pos 0 }

-- the cell of an object's value, where its kind has values
abbrev pub value_cell : History → Kind → ObjectId → List ℕ → Cell
value_cell h AwSet object value = on_cell (has_settled h object (is_add_of value))
value_cell h RwSet object value =
    remove_wins_cell (has_settled h object (is_add_of value)) (has_settled h object (is_rmv_of value)) (has_pending h object (is_add_of value))
value_cell h MvReg object value = on_cell (has_settled h object (is_write_of value))
value_cell h kind object value = on_cell false

-- the cell of an object, where its kind has none
abbrev pub object_cell : History → Kind → ObjectId → Cell
object_cell h EwFlag object = on_cell (has_settled h object is_enable)
object_cell h DwFlag object =
    remove_wins_cell (has_settled h object is_enable) (has_settled h object is_disable) (has_pending h object is_enable)
object_cell h Counter object = sum_cell (counter_sum object (events h))
object_cell h RCounter object = sum_cell (counter_sum object (filter (is_settled h) (events h)))
object_cell h kind object = on_cell false

-- the cell of an object, or of one of its values, after a history
abbrev pub settled_cell : History → ObjectId → Option (List ℕ) → Cell
settled_cell h object None = object_cell h object.kind object
settled_cell h object (Some value) = value_cell h object.kind object value

-- an object and a value put into a list in the order of items, once
abbrev pub put_place : ObjectId → Option (List ℕ) → List (ObjectId × Option (List ℕ)) → List (ObjectId × Option (List ℕ))
put_place object value [] = (object, value) ∷ []
put_place object value (p ∷ ps) =
    if is_lt (item_cmp object value p.0 p.1) then (object, value) ∷ p ∷ ps
    else if is_eq (item_cmp object value p.0 p.1) then p ∷ ps
    else p ∷ put_place object value ps

-- the places with the one that an operation names; the no-op names none
abbrev pub put_place_of : Op → List (ObjectId × Option (List ℕ)) → List (ObjectId × Option (List ℕ))
put_place_of op.NoOp places = places
put_place_of (op.Update u) places = put_place u.object (value_of u.act) places

-- the objects and values that operations of events name, in the order of items and each once
abbrev pub places_of : List Event → List (ObjectId × Option (List ℕ))
places_of events = fold (λ places e. put_place_of e.message.op places) [] events

-- the settled items of a history, in their order: the cells that have a mark or a sum
abbrev pub settled_items : History → List Item
settled_items h =
    filter (λ item. is_filled item.cell)
    (map (λ p. record { object = p.0; value = p.1; cell = settled_cell h p.0 p.1 }) (places_of (events h)))
