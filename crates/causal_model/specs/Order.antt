-- The order of messages, told from their timestamps alone. It is the textbook's rule for vector timestamps.
use Rattle.std.specs.Prelude.{Bool, not, ◌&&◌, ◌==◌, nat_le, List}
use Rattle.std.specs.List.{list_any}
use Rattle.op_base.specs.Timestamp.{entry}
use Rattle.op_base.specs.Message.{number}
use Rattle.op_base.specs.declared.message.Message.{Message}

-- whether two messages have one id
abbrev pub same_id : Message → Message → Bool
same_id a b = (a.origin == b.origin) && (number a == number b)

-- whether a happened before b, in one epoch: they have two ids, and the sender of b had seen a
abbrev pub happened_before : Message → Message → Bool
happened_before a b = not (same_id a b) && nat_le (number a) (entry b.tag a.origin)

-- whether one of the items that pass happened after this one, by an order of such items
abbrev pub is_followed : {A : Type 0} → (A → A → Bool) → (A → Bool) → List A → A → Bool
is_followed before passes items item = list_any (λ later. passes later && before item later) items
