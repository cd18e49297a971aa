-- Messages that put an element into a list, and the room that they ask for.
use Rattle.std.specs.Prelude.{ℕ, ◌≤◌, ◌^◌, Bool, true, false, List, length, filter, Option, Some, None, if◌then◌else◌}
use Rattle.op_base.specs.declared.message.Entry.{Entry}
use Rattle.op_base.specs.declared.message.Message.{Message}
use Rattle.op_base.specs.declared.operation.Op.{Op}
use Rattle.op_base.specs.declared.operation.Op.TheVariants as op
use Rattle.causal_model.specs.Elements.{puts_at}
use Rattle.list_type.specs.Listed.{Listed, AreWithin}
use Rattle.list_type.specs.Putting.{IsFresh}

-- whether an operation puts an element into a list
abbrev pub is_insertion : Op → Bool
is_insertion op.NoOp = false
is_insertion (op.Update u) = puts_at (λ place. true) u.act

-- how many elements an operation puts in
abbrev pub element_room : Op → ℕ
element_room o = if is_insertion o then 1 else 0

-- how many messages do
abbrev pub insertions : List Message → ℕ
insertions messages = length (filter (λ m. is_insertion m.op) messages)

-- the entry by which a message's element is put in
abbrev pub entry_put : ℕ → List ℕ → Op → Option Entry
entry_put origin tag op.NoOp = None
entry_put origin tag (op.Update u) = if is_insertion (op.Update u) then Some (record { origin = origin; tag = tag; update = u }) else None

-- where there is such an entry, there is room for its element, none has its id, and none stands too deep
abbrev pub CanBePut : ℕ → Option Entry → Listed → Type 0
CanBePut epoch None lists = Unit {0}
CanBePut epoch (Some entry) lists = (1 ≤ lists.spare) × IsFresh epoch entry lists × AreWithin (2 ^ 63) lists
