-- What holds of the elements of lists, and what one message more makes of them. Each statement is the contract of a function of
-- laws/lists.rt.
use Rattle.std.specs.Prelude.{◌≡◌, ℕ, suc, false, not, List, [], ◌∷◌, ◌++◌, length, map, filter, slice_get, IsTrue, All, AllPairs, Contains, Option, Some}
use Rattle.std.specs.declared.cmp.Ordering.TheVariants.{Less}
use Rattle.op_base.specs.Order.{text_cmp}
use Rattle.op_base.specs.declared.message.Message.{Message}
use Rattle.op_base.specs.declared.name.Kind.TheVariants as kinds
use Rattle.op_base.specs.declared.name.ObjectId.{ObjectId}
use Rattle.op_base.specs.declared.tag.ElementId.{ElementId}
use Rattle.causal_model.specs.Elements.{same_element, element_of, rank_of, path_below, path_of, put_event, elements_of, list_values, list_ids}
use Rattle.causal_model.specs.History.{History, Event, events, epoch_of, with_message, no_history, is_all_stable, is_before, is_history}
use Rattle.causal_model.specs.Journal.{regrouped}
use Rattle.causal_model.specs.KeptElements.{KeptElement, kept_elements, tombs_of}
use Rattle.causal_model.specs.Laws.Events.{present_event}
use Rattle.causal_model.specs.ListSteps.{pruned, is_open, kept_without, kept_moved, is_shown}
use Rattle.causal_model.specs.Log.{log_of, stripped_of}
use Rattle.causal_model.specs.Parts.{is_on}
use Rattle.causal_model.specs.State.{State}

-- ---- ranks

-- what happened before has the lower rank
abbrev pub LowerRankBefore : Type 0
LowerRankBefore = (w : ℕ) (h : History) (a b : Event) → IsTrue (is_history w h) → Contains (events h) a → Contains (events h) b → IsTrue (is_before a b)
    → text_cmp (rank_of a) (rank_of b) ≡ Less

-- no two events of a history have one rank
abbrev pub RanksDiffer : Type 0
RanksDiffer = (w : ℕ) (h : History) → IsTrue (is_history w h) → AllPairs (λ (a b : Event). rank_of a ≡ rank_of b → ⊥) (events h)

-- ---- one message more

-- the elements: those that were there, and the message's own put among them where it has a path
abbrev pub ElementsOfOneMore : Type 0
ElementsOfOneMore = (w : ℕ) (h : History) (m : Message) (object : ObjectId) → IsTrue (is_history w (with_message h m))
    → elements_of object (events (with_message h m)) ≡ put_event (present_event h m) (path_below (path_of object (events h)) object (events h) (present_event h m)) (elements_of object (events h))

-- the kept elements: moved by the message and by all entries that go from the log
abbrev pub KeptOfOneMore : Type 0
KeptOfOneMore = (w : ℕ) (h : History) (m : Message) (object : ObjectId) → IsTrue (is_history w (with_message h m)) → object.kind ≡ kinds.List
    → kept_moved h m (length (stripped_of h m)) object ≡ kept_elements (with_message h m) object

-- one entry after the other
abbrev pub KeptMovesByEntry : Type 0
KeptMovesByEntry = (h : History) (m : Message) (object : ObjectId) (k : ℕ) (d : Message) → slice_get (stripped_of h m) k ≡ Some d
    → kept_moved h m (suc k) object ≡ kept_without object (epoch_of h) d (kept_moved h m k object)

-- On the way all that could go is gone: no gone element stands without one below it.
abbrev pub KeptIsPruned : Type 0
KeptIsPruned = (w : ℕ) (h : History) (m : Message) (object : ObjectId) (k : ℕ) → IsTrue (is_history w (with_message h m)) → object.kind ≡ kinds.List
    → pruned (kept_moved h m k object) ≡ kept_moved h m k object

-- so where an element stays, all in front of it is as it was, whatever goes behind it
abbrev pub PrunedInFront : Type 0
PrunedInFront = (front : List KeptElement) (e : KeptElement) (rest others : List KeptElement) → pruned (front ++ e ∷ rest) ≡ front ++ e ∷ rest → pruned (e ∷ others) ≡ e ∷ others
    → pruned (front ++ e ∷ others) ≡ front ++ e ∷ others

-- and what goes behind a list goes behind it there
abbrev pub PrunedBehind : Type 0
PrunedBehind = (front rest others : List KeptElement) → pruned rest ≡ pruned others → pruned (front ++ rest) ≡ pruned (front ++ others)

-- no two have one id
abbrev pub KeptIdsDiffer : Type 0
KeptIdsDiffer = (w : ℕ) (h : History) (m : Message) (object : ObjectId) (k : ℕ) → IsTrue (is_history w (with_message h m)) → object.kind ≡ kinds.List
    → AllPairs (λ (a b : KeptElement). same_element a.id b.id ≡ false) (kept_moved h m k object)

-- an entry of another object moves nothing
abbrev pub OthersMoveNothing : Type 0
OthersMoveNothing = (w : ℕ) (h : History) (m : Message) (object : ObjectId) (k : ℕ) (d : Message) → IsTrue (is_history w (with_message h m)) → object.kind ≡ kinds.List
    → is_on object d ≡ false → kept_without object (epoch_of h) d (kept_moved h m k object) ≡ kept_moved h m k object

-- no kept element has the id of the one that the message puts in
abbrev pub NewIdIsFresh : Type 0
NewIdIsFresh = (w : ℕ) (h : History) (m : Message) (object : ObjectId) → IsTrue (is_history w (with_message h m))
    → All (λ e. same_element e.id (element_of (present_event h m)) ≡ false) (kept_elements h object)

-- ---- before the first message, and at the end of an epoch

-- nothing is kept before anything was sent
abbrev pub NoListsYet : Type 0
NoListsYet = (n me : ℕ) (object : ObjectId) → kept_elements (no_history n me) object ≡ []

-- where every operation of the epoch is stable, the kept elements stay
abbrev pub RegroupKeepsLists : Type 0
RegroupKeepsLists = (n me : ℕ) (s : State) (object : ObjectId) → IsTrue (is_all_stable s.history.present) → object.kind ≡ kinds.List
    → kept_elements (regrouped n me s).history object ≡ kept_elements s.history object

-- ---- answers

-- what is shown of a list, from the kept elements and the log: the values of those that aren't gone, and that no entry takes out
abbrev pub ValuesFromKept : Type 0
ValuesFromKept = (w : ℕ) (h : History) (object : ObjectId) → IsTrue (is_history w h) → object.kind ≡ kinds.List
    → list_values object (events h) ≡ map (λ e. e.value) (filter (is_shown object (epoch_of h) (log_of h)) (kept_elements h object))

-- their ids
abbrev pub IdsFromKept : Type 0
IdsFromKept = (w : ℕ) (h : History) (object : ObjectId) → IsTrue (is_history w h) → object.kind ≡ kinds.List
    → list_ids object (events h) ≡ map (λ e. e.id) (filter (is_shown object (epoch_of h) (log_of h)) (kept_elements h object))

-- The object's own entries tell the same, of places and of elements.
abbrev pub OwnEntriesTell : Type 0
OwnEntriesTell = (object : ObjectId) (epoch : ℕ) (log : List Message) (m : Message) (kept : List KeptElement)
    → ((place : Option ElementId) → is_open object epoch (filter (is_on object) log) m kept place ≡ is_open object epoch log m kept place)
    × ((e : KeptElement) → is_shown object epoch (filter (is_on object) log) e ≡ is_shown object epoch log e)

-- and how many of the kept ones aren't shown
abbrev pub TombsFromKept : Type 0
TombsFromKept = (w : ℕ) (h : History) (object : ObjectId) → IsTrue (is_history w h) → object.kind ≡ kinds.List
    → tombs_of h object ≡ length (filter (λ e. not (is_shown object (epoch_of h) (log_of h) e)) (kept_elements h object))
