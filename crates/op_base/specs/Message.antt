-- Messages: their numbers and ids, and what fits a store of so many members.
use Rattle.std.specs.Prelude.{ℕ, Bool, ◌&&◌, ◌==◌, nat_lt, length}
use Rattle.op_base.specs.Timestamp.{entry, id_at}
use Rattle.op_base.specs.declared.tag.MessageId.{MessageId}
use Rattle.op_base.specs.declared.message.Message.{Message}

-- a message's number: how many messages its origin had sent with it
abbrev pub number : Message → ℕ
number message = entry message.tag message.origin

-- a message's origin and number
abbrev pub id_of : Message → MessageId
id_of message = id_at message.origin message.tag

-- whether a message is one of a store of n members: n entries, an origin below n, a number from 1
abbrev pub fits : ℕ → Message → Bool
fits n message = (length message.tag == n) && nat_lt message.origin n && nat_lt 0 (number message)
