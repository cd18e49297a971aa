-- What holds of the events of a history and of their order, and of the queries that are asked of them. Each statement is
-- the contract of a function of laws/events.rt.
use Rattle.std.specs.Prelude.{◌≡◌, ◌⊎◌, ℕ, ◌*◌, ◌<◌, ◌≤◌, Bool, true, false, not, ◌&&◌, ◌||◌, ◌==◌, ◌+ℤ◌, if◌then◌else◌, List, [], ◌∷◌, ◌++◌, length, slice_get, filter, IsTrue, AllPairs, Contains, Option, Some}
use Rattle.std.specs.List.{list_any}
use Rattle.op_base.specs.declared.message.Message.{Message}
use Rattle.op_base.specs.declared.name.ObjectId.{ObjectId}
use Rattle.op_base.specs.declared.name.Kind.TheVariants.{RCounter}
use Rattle.op_base.specs.declared.operation.Act.{Act}
use Rattle.causal_model.specs.Acts.{is_clear, share_of}
use Rattle.causal_model.specs.Covering.{store_covers}
use Rattle.causal_model.specs.Log.{is_covered_by, is_uncovered}
use Rattle.causal_model.specs.Order.{same_id, is_followed}
use Rattle.causal_model.specs.History.{History, Event, events, SameEvents, epoch_of, with_message, is_before, is_history, is_limited, is_act_on}
use Rattle.causal_model.specs.Query.{is_live, rcounter_sum, counter_sum, answer}
use Rattle.causal_model.specs.Settled.{is_stable_event, is_uncovered_event, has_settled, has_pending}
use Rattle.causal_model.specs.Parts.{has, has_by_uncovered, uncovered_answer}

-- the event of a message in the present epoch
abbrev pub present_event : History → Message → Event
present_event h m = record { epoch = epoch_of h; message = m }

-- ---- the order of events

-- no event happened before itself
abbrev pub EventNeverBeforeItself : Type 0
EventNeverBeforeItself = (e : Event) → is_before e e ≡ false

-- in a history, what happened before an event happened before what that happened before
abbrev pub EventsAreTransitive : Type 0
EventsAreTransitive = (w : ℕ) (h : History) (a b c : Event) → IsTrue (is_history w h) → Contains (events h) a → Contains (events h) b → Contains (events h) c
    → IsTrue (is_before a b) → IsTrue (is_before b c) → IsTrue (is_before a c)

-- in a history, of two events at most one happened before the other
abbrev pub EventsAreAsymmetric : Type 0
EventsAreAsymmetric = (w : ℕ) (h : History) (a b : Event) → IsTrue (is_history w h) → Contains (events h) a → Contains (events h) b
    → IsTrue (is_before a b) → is_before b a ≡ false

-- in a history, what happened before an event stands at an earlier place
abbrev pub EventsGoForward : Type 0
EventsGoForward = (w : ℕ) (h : History) (i j : ℕ) (a b : Event) → IsTrue (is_history w h)
    → slice_get (events h) i ≡ Some a → slice_get (events h) j ≡ Some b → IsTrue (is_before a b) → i < j

-- no two events of a history are of one epoch and id
abbrev pub EventsAreApart : Type 0
EventsAreApart = (w : ℕ) (h : History) → IsTrue (is_history w h) → AllPairs (λ (a b : Event). ((a.epoch == b.epoch) && same_id a.message b.message) ≡ false) (events h)

-- an event that passes, and that no event that passes happened after
abbrev pub IsMaximal : (Event → Bool) → List Event → Event → Type 0
IsMaximal passes es top = Contains es top × IsTrue (passes top) × (is_followed is_before passes es top ≡ false)

-- of each event that passes, a maximal one is it or happened after it
abbrev pub SomeIsMaximal : Type 0
SomeIsMaximal = (w : ℕ) (h : History) (passes : Event → Bool) (e : Event) → IsTrue (is_history w h) → Contains (events h) e → IsTrue (passes e)
    → (top : Event) × (IsMaximal passes (events h) top × ((e ≡ top) ⊎ IsTrue (is_before e top)))

-- what happened after a live event is live
abbrev pub LiveGoesUp : Type 0
LiveGoesUp = (w : ℕ) (h : History) (object : ObjectId) (a b : Event) → IsTrue (is_history w h) → Contains (events h) a → Contains (events h) b
    → IsTrue (is_live object (events h) a) → IsTrue (is_before a b) → IsTrue (is_live object (events h) b)

-- ---- queries

-- two histories of the same events, in any two orders and of any two members, answer every object alike
abbrev pub SameEventsAnswerAlike : Type 0
SameEventsAnswerAlike = (w : ℕ) (g h : History) (object : ObjectId) → IsTrue (is_history w g) → IsTrue (is_history w h) → SameEvents g h
    → answer object (events g) ≡ answer object (events h)

-- the query of each kind is one of the uncovered events alone
abbrev pub HasByUncovered : Type 0
HasByUncovered = (w : ℕ) (h : History) (object : ObjectId) (value : Option (List ℕ)) → IsTrue (is_history w h)
    → has object.kind object (events h) value ≡ has_by_uncovered object.kind object (events h) value

-- a counter that can be cleared is the sum over the uncovered events
abbrev pub RCounterByUncovered : Type 0
RCounterByUncovered = (w : ℕ) (h : History) (object : ObjectId) → IsTrue (is_history w h) → object.kind ≡ RCounter
    → rcounter_sum object (events h) ≡ counter_sum object (filter (is_uncovered_event (events h)) (events h))

-- so is the whole answer, but that of `counter`
abbrev pub AnswersAreOfUncovered : Type 0
AnswersAreOfUncovered = (w : ℕ) (h : History) (object : ObjectId) → IsTrue (is_history w h)
    → answer object (events h) ≡ uncovered_answer object.kind object (events h)

-- ---- one message more

-- its event comes last
abbrev pub EventsOfOneMore : Type 0
EventsOfOneMore = (h : History) (m : Message) → events (with_message h m) ≡ events h ++ present_event h m ∷ []

-- an event is uncovered where it was, and the new one neither happened after it nor covers it; the new one is uncovered
abbrev pub UncoveredEventsOfOneMore : Type 0
UncoveredEventsOfOneMore = (w : ℕ) (h : History) (m : Message) → IsTrue (is_history w (with_message h m))
    → ((e : Event) → is_uncovered_event (events (with_message h m)) e ≡ (is_uncovered_event (events h) e && not (is_covered_by store_covers e.message.op m.op && is_before e (present_event h m))))
    × (is_uncovered_event (events (with_message h m)) (present_event h m) ≡ true)

-- A settled event that does such an act: one of before that is stable now, was uncovered and isn't covered by the new one,
-- or the new one where that is stable at once.
abbrev pub SettledOfOneMore : Type 0
SettledOfOneMore = (w : ℕ) (h : History) (m : Message) (object : ObjectId) (passes : Act → Bool) → IsTrue (is_history w (with_message h m))
    → has_settled (with_message h m) object passes
    ≡ (list_any (λ e. is_act_on object passes e && (is_stable_event (with_message h m) e && (is_uncovered_event (events h) e && not (is_covered_by store_covers e.message.op m.op && is_before e (present_event h m))))) (events h)
    || (is_act_on object passes (present_event h m) && is_stable_event (with_message h m) (present_event h m)))

-- a pending event that does such an act: the same of those that aren't stable now
abbrev pub PendingOfOneMore : Type 0
PendingOfOneMore = (w : ℕ) (h : History) (m : Message) (object : ObjectId) (passes : Act → Bool) → IsTrue (is_history w (with_message h m))
    → has_pending (with_message h m) object passes
    ≡ (list_any (λ e. is_act_on object passes e && (not (is_stable_event (with_message h m) e) && (is_uncovered_event (events h) e && not (is_covered_by store_covers e.message.op m.op && is_before e (present_event h m))))) (events h)
    || (is_act_on object passes (present_event h m) && not (is_stable_event (with_message h m) (present_event h m))))

-- a counter: the message's share is added
abbrev pub CounterOfOneMore : Type 0
CounterOfOneMore = (object : ObjectId) (h : History) (m : Message) → counter_sum object (events (with_message h m)) ≡ counter_sum object (events h) +ℤ share_of object m.op

-- a counter that can be cleared: a clear of it leaves the live events that the clear has not seen, and of any other message
-- the share is added
abbrev pub RCounterOfOneMore : Type 0
RCounterOfOneMore = (w : ℕ) (object : ObjectId) (h : History) (m : Message) → IsTrue (is_history w (with_message h m))
    → rcounter_sum object (events (with_message h m))
    ≡ (if is_act_on object is_clear (present_event h m) then counter_sum object (filter (λ e. not (is_before e (present_event h m))) (filter (is_live object (events h)) (events h)))
    else rcounter_sum object (events h) +ℤ share_of object m.op)

-- a message of the present epoch is covered by events exactly where it is by messages of the epoch
abbrev pub PresentIsCoveredInPresent : Type 0
PresentIsCoveredInPresent = (h : History) (m : Message) → is_uncovered_event (events h) (present_event h m) ≡ is_uncovered store_covers h.present.messages m

-- an event of an epoch that is over happened before each of the present one
abbrev pub PastIsBeforePresent : Type 0
PastIsBeforePresent = (h : History) (e : Event) (m : Message) → e.epoch < epoch_of h → IsTrue (is_before e (present_event h m))

-- a history has at most the limit's number of events for each of 16 members of each of 65536 epochs
abbrev pub HistoryIsBounded : Type 0
HistoryIsBounded = (w limit : ℕ) (h : History) → IsTrue (is_history w h) → IsTrue (is_limited limit h) → length (events h) ≤ 65536 * (16 * limit)
