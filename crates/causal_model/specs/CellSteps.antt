-- What one message more does to settled cells, step by step: what it covers goes, the entries of the log that are stable
-- now are absorbed, and the marks of the kinds in which a remove wins are settled. The cells are this project's own
-- profile.
use Rattle.std.specs.Prelude.{ℕ, Bool, true, false, not, ◌&&◌, ◌||◌, ◌+ℤ◌, List, fold, take, length, Option, Some, None, if◌then◌else◌}
use Rattle.std.specs.List.{list_any}
use Rattle.std.specs.Ordering.{is_eq}
use Rattle.op_base.specs.Object.{same_object}
use Rattle.op_base.specs.Order.{item_cmp}
use Rattle.op_base.specs.declared.name.ObjectId.{ObjectId}
use Rattle.op_base.specs.declared.name.Kind.{Kind}
use Rattle.op_base.specs.declared.name.Kind.TheVariants.{AwSet, RwSet, EwFlag, DwFlag, MvReg, Counter, RCounter}
use Rattle.op_base.specs.declared.name.Kind.TheVariants as kinds
use Rattle.op_base.specs.declared.message.Message.{Message}
use Rattle.op_base.specs.declared.operation.Act.{Act}
use Rattle.op_base.specs.declared.operation.Act.TheVariants.{Add, Rmv, Enable, Disable, Write}
use Rattle.op_base.specs.declared.operation.Op.{Op}
use Rattle.op_base.specs.declared.operation.Op.TheVariants as op
use Rattle.op_base.specs.declared.outcome.Cell.{Cell}
use Rattle.causal_model.specs.Acts.{acts_on, value_of, is_clear, is_enable, is_add_of, same_value, amount_of}
use Rattle.causal_model.specs.History.{History}
use Rattle.causal_model.specs.Items.{zero_cell}
use Rattle.causal_model.specs.Log.{stripped_of}
use Rattle.causal_model.specs.Settled.{settled_cell}

-- whether a kind is that of counters that can't be cleared
abbrev pub is_counter : Kind → Bool
is_counter Counter = true
is_counter kind = false

-- whether an act of a kind covers what is settled of a value, or of an object without one
abbrev pub covers_value : Kind → Act → Option (List ℕ) → Bool
covers_value AwSet act value = is_clear act || same_value (value_of act) value
covers_value RwSet act value = is_clear act || same_value (value_of act) value
covers_value EwFlag act value = true
covers_value DwFlag act value = true
covers_value MvReg act value = true
covers_value Counter act value = false
covers_value RCounter act value = is_clear act
covers_value kinds.List act value = false

-- whether an operation covers what is settled of an object and a value
abbrev pub covers_place : Op → ObjectId → Option (List ℕ) → Bool
covers_place op.NoOp object value = false
covers_place (op.Update u) object value = same_object u.object object && covers_value object.kind u.act value

-- a cell without what an operation covers
abbrev pub cell_uncovered : ObjectId → Option (List ℕ) → Op → Cell → Cell
cell_uncovered object value o cell = if covers_place o object value then zero_cell else cell

-- whether an act sets the on mark
abbrev pub marks_on : Act → Bool
marks_on (Add v) = true
marks_on (Write v) = true
marks_on Enable = true
marks_on act = false

-- whether an act sets the off mark
abbrev pub marks_off : Act → Bool
marks_off (Rmv v) = true
marks_off Disable = true
marks_off act = false

-- a cell with the mark or the amount of an act
abbrev pub with_act : Act → Cell → Cell
with_act act cell = record { on = cell.on || marks_on act; off = cell.off || marks_off act; sum = cell.sum +ℤ amount_of act }

-- the cell of an object and a value with an operation that was stripped from the log, where that is of them
abbrev pub cell_with : ObjectId → Option (List ℕ) → Cell → Op → Cell
cell_with object value cell op.NoOp = cell
cell_with object value cell (op.Update u) = if is_eq (item_cmp u.object (value_of u.act) object value) then with_act u.act cell else cell

-- the cell where a remove wins, when it is told whether an add is pending
abbrev pub marks_settled : Bool → Cell → Cell
marks_settled pending cell = record { on = cell.on && (not cell.off || pending); off = cell.off && pending; sum = cell.sum }

-- the cell of a kind with its marks settled
abbrev pub cell_settled : Kind → Bool → Cell → Cell
cell_settled RwSet pending cell = marks_settled pending cell
cell_settled DwFlag pending cell = marks_settled pending cell
cell_settled kind pending cell = cell

-- whether an act puts in what an object's value says, or turns on an object without one
abbrev pub puts_in : Option (List ℕ) → Act → Bool
puts_in None act = is_enable act
puts_in (Some value) act = is_add_of value act

-- whether a message of a log puts in what an object's value says, or turns it on
abbrev pub is_put_in : List Message → ObjectId → Option (List ℕ) → Bool
is_put_in log object value = list_any (λ m. acts_on object (puts_in value) m.op) log

-- ---- by the store's rules

-- a cell of a history when a message has come: without what the message covers, and with the first k of the entries that go
-- from the log
abbrev pub cell_absorbed : History → Message → ℕ → ObjectId → Option (List ℕ) → Cell
cell_absorbed h m k object value =
    fold (λ cell e. cell_with object value cell e.op) (cell_uncovered object value m.op (settled_cell h object value)) (take k (stripped_of h m))

-- an operation that is applied at once, since it is one of a counter that can't be cleared; no other is
abbrev pub cell_applied : ObjectId → Option (List ℕ) → Op → Cell → Cell
cell_applied object value op.NoOp cell = cell
cell_applied object value (op.Update u) cell = if is_counter u.object.kind then cell_with object value cell (op.Update u) else cell

-- the same with all of them, and with the message where it is applied at once
abbrev pub cell_moved : History → Message → ObjectId → Option (List ℕ) → Cell
cell_moved h m object value = cell_applied object value m.op (cell_absorbed h m (length (stripped_of h m)) object value)
