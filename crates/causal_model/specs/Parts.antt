-- Answers from parts: what an object is, told from the events that nothing covers, and from its settled cells and the
-- entries of the log. The kinds are this project's own profile.
use Rattle.std.specs.Prelude.{◌≡◌, ℕ, Bool, true, false, not, ◌&&◌, ◌||◌, List, filter, Option, Some, None}
use Rattle.std.specs.List.{list_any}
use Rattle.op_base.specs.declared.name.ObjectId.{ObjectId}
use Rattle.op_base.specs.declared.name.Kind.{Kind}
use Rattle.op_base.specs.declared.name.Kind.TheVariants.{AwSet, RwSet, EwFlag, DwFlag, MvReg, Counter, RCounter}
use Rattle.op_base.specs.declared.name.Kind.TheVariants as kinds
use Rattle.causal_model.specs.Elements.{list_values}
use Rattle.op_base.specs.declared.message.Message.{Message}
use Rattle.op_base.specs.declared.operation.Act.{Act}
use Rattle.op_base.specs.declared.outcome.Answer.{Answer}
use Rattle.op_base.specs.declared.outcome.Answer.TheVariants.{Values, Flag, Sum}
use Rattle.op_base.specs.declared.outcome.Cell.{Cell}
use Rattle.op_base.specs.declared.outcome.Item.{Item}
use Rattle.causal_model.specs.Acts.{acts_on, is_add_of, is_rmv_of, is_write_of, is_enable, is_disable}
use Rattle.causal_model.specs.Log.{log_of}
use Rattle.causal_model.specs.History.{History, Event, is_act_on}
use Rattle.causal_model.specs.Items.{cell_in}
use Rattle.causal_model.specs.Query.{awset_has, rwset_has, mvreg_has, ewflag_on, dwflag_on, counter_sum, values_that}
use Rattle.causal_model.specs.Settled.{is_uncovered_event, settled_cell}

-- whether an act puts in a value, or turns on a flag
abbrev pub puts : Option (List ℕ) → Act → Bool
puts None act = is_enable act
puts (Some value) act = is_add_of value act || is_write_of value act

-- whether an act takes out a value, or turns off a flag
abbrev pub takes : Option (List ℕ) → Act → Bool
takes None act = is_disable act
takes (Some value) act = is_rmv_of value act

-- the query of a kind: whether a value is in an object, or a flag without one is on
abbrev pub has : Kind → ObjectId → List Event → Option (List ℕ) → Bool
has AwSet object events (Some value) = awset_has object events value
has RwSet object events (Some value) = rwset_has object events value
has MvReg object events (Some value) = mvreg_has object events value
has EwFlag object events None = ewflag_on object events
has DwFlag object events None = dwflag_on object events
has kind object events value = false

-- an uncovered event does such an act to an object
abbrev pub has_uncovered : ObjectId → List Event → (Act → Bool) → Bool
has_uncovered object events passes = list_any (λ e. is_act_on object passes e && is_uncovered_event events e) events

-- whether something is in by what was put in and what was taken out: in the kinds in which a remove wins, where nothing
-- was taken out
abbrev pub is_in : Kind → Bool → Bool → Bool
is_in RwSet put taken = put && not taken
is_in DwFlag put taken = put && not taken
is_in kind put taken = put

-- the same query by the uncovered events alone
abbrev pub has_by_uncovered : Kind → ObjectId → List Event → Option (List ℕ) → Bool
has_by_uncovered kind object events value = is_in kind (has_uncovered object events (puts value)) (has_uncovered object events (takes value))

-- whether a message of a log does such an act to an object
abbrev pub has_logged : ObjectId → List Message → (Act → Bool) → Bool
has_logged object log passes = list_any (λ m. acts_on object passes m.op) log

-- the same query by a settled cell and the log
abbrev pub has_by_parts : Kind → ObjectId → Cell → List Message → Option (List ℕ) → Bool
has_by_parts kind object cell log value = is_in kind (cell.on || has_logged object log (puts value)) (cell.off || has_logged object log (takes value))

-- the answer of a kind by the uncovered events alone; of `counter` and of a list by all
abbrev pub uncovered_answer : Kind → ObjectId → List Event → Answer
uncovered_answer EwFlag object events = Flag (has_by_uncovered EwFlag object events None)
uncovered_answer DwFlag object events = Flag (has_by_uncovered DwFlag object events None)
uncovered_answer Counter object events = Sum (counter_sum object events)
uncovered_answer kinds.List object events = Values (list_values object events)
uncovered_answer RCounter object events = Sum (counter_sum object (filter (is_uncovered_event events) events))
uncovered_answer kind object events = Values (values_that (λ value. has_by_uncovered kind object events (Some value)) object events)

-- whether a message's operation is of an object
abbrev pub is_on : ObjectId → Message → Bool
is_on object m = acts_on object (λ act. true) m.op

-- Entries and items are an object's part of a history: its entries of the log, and its settled cells. The items may have
-- cells of other objects too.
pub record ArePartsOf (h : History) (object : ObjectId) (entries : List Message) (items : List Item) : Type 0 where
  pub logged : entries ≡ filter (is_on object) (log_of h)
  pub settled : (value : Option (List ℕ)) → cell_in items object value ≡ settled_cell h object value
