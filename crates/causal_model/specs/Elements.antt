-- Lists: which values were put in and stand there, and in which order. That an element is put behind another, and that of two
-- which were put behind one the later one comes first, is the idea of the replicated growable array (Roh, Jeon, Kim and Lee,
-- 2011); the rest is this project's own profile. These definitions speak of all events of a history and their order. They
-- name no order of delivery, no log and no stability.
use Rattle.std.specs.Prelude.{ℕ, zero, suc, Bool, true, false, not, ◌||◌, ◌&&◌, ◌==◌, List, [], ◌∷◌, ◌++◌, map, filter, fold, length, sum, Option, Some, None, if◌then◌else◌}
use Rattle.std.specs.List.{find}
use Rattle.std.specs.Option.{option_map, option_and_then}
use Rattle.std.specs.Ordering.{is_lt}
use Rattle.op_base.specs.Message.{number}
use Rattle.op_base.specs.Name.{same_text}
use Rattle.op_base.specs.Order.{text_cmp}
use Rattle.op_base.specs.declared.name.ObjectId.{ObjectId}
use Rattle.op_base.specs.declared.operation.Act.{Act}
use Rattle.op_base.specs.declared.operation.Act.TheVariants.{Clear, Ins, Del}
use Rattle.op_base.specs.declared.operation.Op.{Op}
use Rattle.op_base.specs.declared.operation.Op.TheVariants as op
use Rattle.op_base.specs.declared.tag.ElementId.{ElementId}
use Rattle.causal_model.specs.History.{Event, is_before, is_act_on}
use Rattle.causal_model.specs.Order.{is_followed}

-- ---- acts

-- whether two ids are one
abbrev pub same_element : ElementId → ElementId → Bool
same_element a b = (a.epoch == b.epoch) && ((a.origin == b.origin) && (a.seq == b.seq))

-- whether an act puts a value in, at a place that passes
abbrev pub puts_at : (Option ElementId → Bool) → Act → Bool
puts_at passes (Ins v place) = passes place
puts_at passes act = false

-- whether a place is the head
abbrev pub is_head : Option ElementId → Bool
is_head None = true
is_head (Some id) = false

-- whether a place is behind the element of an id
abbrev pub is_behind : ElementId → Option ElementId → Bool
is_behind id None = false
is_behind id (Some other) = same_element other id

-- whether an act takes the element of an id out, if it has seen it: its delete, or a clear
abbrev pub takes_out : ElementId → Act → Bool
takes_out id (Del other) = same_element other id
takes_out id Clear = true
takes_out id act = false

-- the value that an act puts in
abbrev pub value_put : Act → List ℕ
value_put (Ins v place) = v
value_put act = []

-- the value that an operation puts in
abbrev pub inserted_value : Op → List ℕ
inserted_value op.NoOp = []
inserted_value (op.Update u) = value_put u.act

-- ---- elements

-- the id of the element that an event puts in: the event's own
abbrev pub element_of : Event → ElementId
element_of e = record { epoch = e.epoch; origin = e.message.origin; seq = number e.message }

-- whether an element was taken out: an event after it deletes it, or clears the object
abbrev pub is_deleted : ObjectId → List Event → Event → Bool
is_deleted object events e = is_followed is_before (is_act_on object (takes_out (element_of e))) events e

-- the events that happened before one
abbrev pub past_of : List Event → Event → List Event
past_of events e = filter (λ earlier. is_before earlier e) events

-- the event behind whose element one puts its own: the one that it names, which happened before it and wasn't taken out then
abbrev pub parent_of : ObjectId → List Event → Event → Option Event
parent_of object events e =
    find (λ parent. is_act_on object (puts_at (is_behind (element_of parent))) e && not (is_deleted object (past_of events e) parent)) (past_of events e)

-- the rank of an element: by epoch, then by how many messages its sender had seen and sent, then by member
abbrev pub rank_of : Event → List ℕ
rank_of e = e.epoch ∷ sum e.message.tag ∷ e.message.origin ∷ []

-- the path of the element that an event puts in, by those of the others: at the head, or below its parent's
abbrev pub path_below : (Event → Option (List (List ℕ))) → ObjectId → List Event → Event → Option (List (List ℕ))
path_below path object events e =
    if is_act_on object (puts_at is_head) e then Some (rank_of e ∷ [])
    else option_map (λ above. above ++ rank_of e ∷ []) (option_and_then path (parent_of object events e))

-- The path of an element, of at most so many steps: the ranks from the topmost element above it down to its own. An event
-- without a path puts no element in: neither at the head, nor behind an element.
abbrev pub path_within : ℕ → ObjectId → List Event → Event → Option (List (List ℕ))
path_within zero object events e = None
path_within (suc most) object events e = path_below (λ parent. path_within most object events parent) object events e

-- its path: each step leads to an event that happened before, so that there are no more steps than events
abbrev pub path_of : ObjectId → List Event → Event → Option (List (List ℕ))
path_of object events e = path_within (length events) object events e

-- an element of a list: the event that put it in, and its path
pub record Element : Type 0 where
  pub event : Event
  pub path : List (List ℕ)

-- ---- their order

-- whether one path comes before another: an element before those below it, and where two part the higher rank
abbrev pub comes_before : List (List ℕ) → List (List ℕ) → Bool
comes_before path [] = false
comes_before [] (y ∷ ys) = true
comes_before (x ∷ xs) (y ∷ ys) = is_lt (text_cmp y x) || (same_text x y && comes_before xs ys)

-- an element put among others in this order
abbrev pub put_element : Element → List Element → List Element
put_element e [] = e ∷ []
put_element e (other ∷ others) = if comes_before e.path other.path then e ∷ other ∷ others else other ∷ put_element e others

-- an event's element put among others, where it puts one in
abbrev pub put_event : Event → Option (List (List ℕ)) → List Element → List Element
put_event e None elements = elements
put_event e (Some path) elements = put_element (record { event = e; path = path }) elements

-- The elements of a list, in their order: each before those below it, and of those that were put at one place the higher
-- rank first, with all below it.
abbrev pub elements_of : ObjectId → List Event → List Element
elements_of object events = fold (λ elements e. put_event e (path_of object events e) elements) [] events

-- those that were not taken out
abbrev pub shown_of : ObjectId → List Event → List Element
shown_of object events = filter (λ e. not (is_deleted object events e.event)) (elements_of object events)

-- ---- what is asked

-- the values of a list, in its order
abbrev pub list_values : ObjectId → List Event → List (List ℕ)
list_values object events = map (λ e. inserted_value e.event.message.op) (shown_of object events)

-- their ids
abbrev pub list_ids : ObjectId → List Event → List ElementId
list_ids object events = map (λ e. element_of e.event) (shown_of object events)
