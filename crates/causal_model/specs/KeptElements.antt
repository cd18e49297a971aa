-- What remains of a list's elements once deletions are stable. That a deletion which every member is known to have lets its
-- element go is the idea of the plain state of Baquero, Almeida and Shoker (arXiv 1710.04469); which elements stay is this
-- project's own profile. It asks all events of a history; no element is moved step by step.
use Rattle.std.specs.Prelude.{ℕ, Bool, true, false, not, ◌&&◌, List, [], ◌∷◌, map, filter, length}
use Rattle.std.specs.List.{list_any}
use Rattle.op_base.specs.Name.{same_text}
use Rattle.op_base.specs.declared.name.ObjectId.{ObjectId}
use Rattle.op_base.specs.declared.tag.ElementId.{ElementId}
use Rattle.causal_model.specs.Elements.{Element, element_of, is_deleted, elements_of, inserted_value, rank_of}
use Rattle.causal_model.specs.History.{History, Event, events}
use Rattle.causal_model.specs.Settled.{is_stable_event}

-- whether a stable event takes an element out
abbrev pub is_gone : History → ObjectId → Event → Bool
is_gone h object e = is_deleted object (filter (is_stable_event h) (events h)) e

-- whether a path begins with another: its element is that one's, or stands below it
abbrev pub begins_with : List (List ℕ) → List (List ℕ) → Bool
begins_with [] path = true
begins_with (x ∷ xs) [] = false
begins_with (x ∷ xs) (y ∷ ys) = same_text x y && begins_with xs ys

-- an element is kept where it, or one below it, isn't gone
abbrev pub is_kept_element : History → ObjectId → Element → Bool
is_kept_element h object e = list_any (λ other. begins_with e.path other.path && not (is_gone h object other.event)) (elements_of object (events h))

-- the elements that are kept, in their order
abbrev pub kept_of : History → ObjectId → List Element
kept_of h object = filter (is_kept_element h object) (elements_of object (events h))

-- what is kept of an element: its id, its rank, how many stand above it and itself, its value, and whether it is gone
pub record KeptElement : Type 0 where
  pub id : ElementId
  pub rank : List ℕ
  pub depth : ℕ
  pub value : List ℕ
  pub gone : Bool

-- the same of each that is kept
abbrev pub kept_elements : History → ObjectId → List KeptElement
kept_elements h object =
    map (λ e. record { id = element_of e.event; rank = rank_of e.event; depth = length e.path; value = inserted_value e.event.message.op; gone = is_gone h object e.event }) (kept_of h object)

-- how many of them aren't shown
abbrev pub tombs_of : History → ObjectId → ℕ
tombs_of h object = length (filter (λ e. is_deleted object (events h) e.event) (kept_of h object))
