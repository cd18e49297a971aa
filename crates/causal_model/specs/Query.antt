-- Queries: what an object is, over all events of a history and their order. They name no order of delivery, no log and
-- no stability. The kinds are the usual ones, in this project's wording.
use Rattle.std.specs.Prelude.{◌≡◌, ℕ, Bool, not, ◌||◌, ◌&&◌, ℤ, pos, ◌+ℤ◌, ◌<ℤ◌, neg_ℤ, List, [], ◌∷◌, map, filter, fold, AllPairs, Option, Some, None, if◌then◌else◌}
use Rattle.std.specs.List.{list_any, list_all}
use Rattle.std.specs.Ordering.{is_lt, is_eq}
use Rattle.std.specs.declared.cmp.Ordering.TheVariants.{Less}
use Rattle.op_base.specs.Object.{same_object}
use Rattle.op_base.specs.Order.{text_cmp}
use Rattle.op_base.specs.declared.name.ObjectId.{ObjectId}
use Rattle.op_base.specs.declared.name.Kind.{Kind}
use Rattle.op_base.specs.declared.name.Kind.TheVariants.{AwSet, RwSet, EwFlag, DwFlag, MvReg, Counter, RCounter}
use Rattle.op_base.specs.declared.name.Kind.TheVariants as kinds
use Rattle.op_base.specs.declared.outcome.Answer.{Answer}
use Rattle.op_base.specs.declared.outcome.Answer.TheVariants.{Values, Flag, Sum}
use Rattle.op_base.specs.declared.operation.Act.{Act}
use Rattle.op_base.specs.declared.operation.Op.{Op}
use Rattle.op_base.specs.declared.operation.Op.TheVariants as op
use Rattle.causal_model.specs.Order.{is_followed}
use Rattle.causal_model.specs.History.{Event, is_before, is_act_on}
use Rattle.causal_model.specs.Elements.{list_values}
use Rattle.causal_model.specs.Acts.{is_add_of, is_rmv_of, is_write_of, is_write, is_clear, is_enable, is_disable, value_of, share_of}

-- an operation is voided where a clear of its object happened after it, and live otherwise
abbrev pub is_live : ObjectId → List Event → Event → Bool
is_live object events e = not (is_followed is_before (is_act_on object is_clear) events e)

-- some event puts in, and none after it takes out: what puts in wins over what it is concurrent with
abbrev pub add_wins : ObjectId → (Act → Bool) → (Act → Bool) → List Event → Bool
add_wins object puts_in takes_out events =
    list_any (λ e. is_act_on object puts_in e && not (is_followed is_before (is_act_on object takes_out) events e)) events

-- a live event puts in, and each live one that takes out has one that puts in after it: what takes out wins
abbrev pub remove_wins : ObjectId → (Act → Bool) → (Act → Bool) → List Event → Bool
remove_wins object puts_in takes_out events =
    list_any (λ e. is_act_on object puts_in e && is_live object events e) events
    && list_all (λ e. not (is_act_on object takes_out e && is_live object events e) || is_followed is_before (is_act_on object puts_in) events e) events

-- a value is in an add-wins set
abbrev pub awset_has : ObjectId → List Event → List ℕ → Bool
awset_has object events value = add_wins object (is_add_of value) (λ act. is_rmv_of value act || is_clear act) events

-- a value is in a remove-wins set
abbrev pub rwset_has : ObjectId → List Event → List ℕ → Bool
rwset_has object events value = remove_wins object (is_add_of value) (is_rmv_of value) events

-- an enable-wins flag is on
abbrev pub ewflag_on : ObjectId → List Event → Bool
ewflag_on object events = add_wins object is_enable (λ act. is_disable act || is_clear act) events

-- a disable-wins flag is on
abbrev pub dwflag_on : ObjectId → List Event → Bool
dwflag_on object events = remove_wins object is_enable is_disable events

-- a register has a value: it was written, and nothing was written or cleared after that
abbrev pub mvreg_has : ObjectId → List Event → List ℕ → Bool
mvreg_has object events value = add_wins object (is_write_of value) (λ act. is_write act || is_clear act) events

-- what operations add to a counter in all
abbrev pub total_of : ObjectId → List Op → ℤ
total_of object ops = fold (λ sum o. sum +ℤ share_of object o) (pos 0) ops

-- a counter: the sum of all increments less all decrements
abbrev pub counter_sum : ObjectId → List Event → ℤ
counter_sum object events = total_of object (map (λ e. e.message.op) events)

-- a counter that can be cleared: the same over the live operations
abbrev pub rcounter_sum : ObjectId → List Event → ℤ
rcounter_sum object events = counter_sum object (filter (is_live object events) events)

-- a sum lies strictly between a bound's negative and the bound
abbrev pub IsWithin : ℕ → ℤ → Type 0
IsWithin bound sum = (neg_ℤ (pos bound) <ℤ sum) × (sum <ℤ pos bound)

-- a value put into a list in byte order, once
abbrev pub put_value : List ℕ → List (List ℕ) → List (List ℕ)
put_value value [] = value ∷ []
put_value value (v ∷ vs) =
    if is_lt (text_cmp value v) then value ∷ v ∷ vs
    else if is_eq (text_cmp value v) then v ∷ vs
    else v ∷ put_value value vs

-- the values with the one that an operation names of an object, where it names one
abbrev pub put_named : Option (List ℕ) → List (List ℕ) → List (List ℕ)
put_named None values = values
put_named (Some value) values = put_value value values

-- the values with the one that an operation names of this object, where it is of this object and names one
abbrev pub put_of : ObjectId → Op → List (List ℕ) → List (List ℕ)
put_of object op.NoOp values = values
put_of object (op.Update u) values = if same_object u.object object then put_named (value_of u.act) values else values

-- all values that operations of an object name, in byte order and each once
abbrev pub named_values : ObjectId → List Event → List (List ℕ)
named_values object events = fold (λ values e. put_of object e.message.op values) [] events

-- the values of a set or a register, in byte order and each once
abbrev pub values_that : (List ℕ → Bool) → ObjectId → List Event → List (List ℕ)
values_that has object events = filter has (named_values object events)

-- values rise in byte order
abbrev pub TextsRise : List (List ℕ) → Type 0
TextsRise values = AllPairs (λ (a b : List ℕ). text_cmp a b ≡ Less) values

-- the answer of a kind
abbrev pub answer_as : Kind → ObjectId → List Event → Answer
answer_as AwSet object events = Values (values_that (awset_has object events) object events)
answer_as RwSet object events = Values (values_that (rwset_has object events) object events)
answer_as EwFlag object events = Flag (ewflag_on object events)
answer_as DwFlag object events = Flag (dwflag_on object events)
answer_as MvReg object events = Values (values_that (mvreg_has object events) object events)
answer_as Counter object events = Sum (counter_sum object events)
answer_as RCounter object events = Sum (rcounter_sum object events)
answer_as kinds.List object events = Values (list_values object events)

-- what an object is after events
abbrev pub answer : ObjectId → List Event → Answer
answer object events = answer_as object.kind object events
