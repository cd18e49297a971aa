-- How answers come from settled cells and the log, and how large they are. Each statement is the contract of a function of
-- laws/answers.rt.
use Rattle.std.specs.Prelude.{◌≡◌, ◌↔◌, ℕ, ◌≤◌, ◌^◌, Bool, ◌||◌, List, map, filter, IsTrue, Contains, Option, Some, None, ◌+ℤ◌}
use Rattle.std.specs.List.{list_any}
use Rattle.op_base.specs.Object.{same_object}
use Rattle.op_base.specs.declared.name.ObjectId.{ObjectId}
use Rattle.op_base.specs.declared.name.Kind.TheVariants.{Counter, RCounter}
use Rattle.op_base.specs.declared.message.Message.{Message}
use Rattle.op_base.specs.declared.operation.Act.{Act}
use Rattle.op_base.specs.declared.operation.Update.{Update}
use Rattle.op_base.specs.declared.outcome.Item.{Item}
use Rattle.causal_model.specs.Acts.{value_of, same_value}
use Rattle.causal_model.specs.Covering.{store_keeps}
use Rattle.causal_model.specs.Items.{cell_in}
use Rattle.causal_model.specs.History.{History, Event, events, is_history, is_limited, is_act_on}
use Rattle.causal_model.specs.Query.{TextsRise, counter_sum, rcounter_sum, total_of, values_that, IsWithin}
use Rattle.causal_model.specs.Settled.{has_settled, has_pending, settled_cell}
use Rattle.causal_model.specs.Parts.{has, has_by_parts, has_uncovered, has_logged, ArePartsOf}
use Rattle.causal_model.specs.Log.{log_of}

-- ---- from the log and the settled cells

-- an uncovered event is settled or pending
abbrev pub UncoveredIsSettledOrPending : Type 0
UncoveredIsSettledOrPending = (h : History) (object : ObjectId) (passes : Act → Bool)
    → has_uncovered object (events h) passes ≡ (has_settled h object passes || has_pending h object passes)

-- where each act that passes is one that the object's kind logs, the pending events are the logged ones
abbrev pub PendingIsLogged : Type 0
PendingIsLogged = (h : History) (object : ObjectId) (passes : Act → Bool)
    → ((u : Update) → IsTrue (same_object u.object object) → IsTrue (passes u.act) → IsTrue (store_keeps u))
    → has_pending h object passes ≡ has_logged object (log_of h) passes

-- the query of each kind is one of the cell and the log
abbrev pub HasByParts : Type 0
HasByParts = (w : ℕ) (h : History) (object : ObjectId) (value : Option (List ℕ)) → IsTrue (is_history w h)
    → has object.kind object (events h) value ≡ has_by_parts object.kind object (settled_cell h object value) (log_of h) value

-- the counter that can be cleared is its cell's sum and its log entries
abbrev pub RCounterByParts : Type 0
RCounterByParts = (w : ℕ) (h : History) (object : ObjectId) → IsTrue (is_history w h) → object.kind ≡ RCounter
    → rcounter_sum object (events h) ≡ (settled_cell h object None).sum +ℤ total_of object (map (λ m. m.op) (log_of h))

-- so the query of each kind is one of an object's part of a history
abbrev pub HasFromParts : Type 0
HasFromParts = (w : ℕ) (h : History) (object : ObjectId) (value : Option (List ℕ)) (entries : List Message) (items : List Item)
    → IsTrue (is_history w h) → ArePartsOf h object entries items
    → has object.kind object (events h) value ≡ has_by_parts object.kind object (cell_in items object value) entries value

-- and the sum of each counter is its cell's sum and its entries
abbrev pub SumFromParts : Type 0
SumFromParts = (w : ℕ) (h : History) (object : ObjectId) (entries : List Message) (items : List Item)
    → IsTrue (is_history w h) → ArePartsOf h object entries items
    → ((object.kind ≡ Counter → counter_sum object (events h) ≡ (cell_in items object None).sum +ℤ total_of object (map (λ m. m.op) entries))
    × (object.kind ≡ RCounter → rcounter_sum object (events h) ≡ (cell_in items object None).sum +ℤ total_of object (map (λ m. m.op) entries)))

-- ---- the values of an answer

-- they rise in byte order
abbrev pub ValuesRise : Type 0
ValuesRise = (has : List ℕ → Bool) (object : ObjectId) (es : List Event) → TextsRise (values_that has object es)

-- an operation of an object names a value
abbrev pub is_named : ObjectId → List ℕ → List Event → Bool
is_named object value es = list_any (is_act_on object (λ act. same_value (value_of act) (Some value))) es

-- they are exactly those that pass, where only named ones pass
abbrev pub ValuesAreExact : Type 0
ValuesAreExact = (has : List ℕ → Bool) (object : ObjectId) (es : List Event) → ((value : List ℕ) → IsTrue (has value) → IsTrue (is_named object value es))
    → (value : List ℕ) → (Contains (values_that has object es) value ↔ IsTrue (has value))

-- a value that is in an object is named
abbrev pub OnlyNamedAreIn : Type 0
OnlyNamedAreIn = (object : ObjectId) (es : List Event) (value : List ℕ) → IsTrue (has object.kind object es (Some value)) → IsTrue (is_named object value es)

-- a rising list is determined by its members
abbrev pub OneRisingList : Type 0
OneRisingList = (xs ys : List (List ℕ)) → TextsRise xs → TextsRise ys → ((value : List ℕ) → (Contains xs value ↔ Contains ys value)) → xs ≡ ys

-- ---- how large sums are

-- a sum over any of the events of a history fits a number of 128 bits by far
abbrev pub SumsAreBounded : Type 0
SumsAreBounded = (w limit : ℕ) (h : History) (object : ObjectId) (passes : Event → Bool) → IsTrue (is_history w h) → IsTrue (is_limited limit h) → limit ≤ 1000000
    → IsWithin (2 ^ 80) (counter_sum object (filter passes (events h)))
