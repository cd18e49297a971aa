-- Counts: how many messages of each member were delivered in an epoch, and which message can come next. The timestamps
-- are the textbook's vectors; delivery is as in Baquero, Almeida and Shoker (arXiv 1710.04469). These definitions speak of
-- the messages of one epoch, oldest first.
use Rattle.std.specs.Prelude.{ℕ, ◌+◌, Bool, ◌||◌, ◌&&◌, ◌==◌, nat_le, List, map, count_by, slice_set}
use Rattle.std.specs.List.{range_with_len, list_all}
use Rattle.op_base.specs.Timestamp.{entry}
use Rattle.op_base.specs.Message.{number}
use Rattle.op_base.specs.Valid.{is_valid}
use Rattle.op_base.specs.declared.message.Message.{Message}

-- the members of a store of n members
abbrev pub members : ℕ → List ℕ
members n = range_with_len 0 n

-- how many messages of a member there are
abbrev pub count_of : List Message → ℕ → ℕ
count_of messages member = count_by (λ m. m.origin == member) messages

-- how many there are of each member, as a timestamp
abbrev pub counts : ℕ → List Message → List ℕ
counts n messages = map (count_of messages) (members n)

-- the timestamp of a member's next own message: the counts with its own raised by one
abbrev pub next_tag : ℕ → ℕ → List Message → List ℕ
next_tag n me messages = slice_set (counts n messages) me (count_of messages me + 1)

-- Whether a message can be delivered where so many of each member were: it is its origin's next, and each other message
-- that it has seen is there. This is causal delivery, as in Baquero, Almeida and Shoker (arXiv 1710.04469).
abbrev pub is_deliverable : ℕ → List ℕ → Message → Bool
is_deliverable n counted m =
    (number m == entry counted m.origin + 1)
    && list_all (λ member. (member == m.origin) || nat_le (entry m.tag member) (entry counted member)) (members n)

-- whether a message can be carried in a store with a limit of messages a member: no entry of its timestamp is above the
-- limit, and its operation is one that a frame can carry
abbrev pub is_carried : ℕ → Message → Bool
is_carried limit m = list_all (λ e. nat_le e limit) m.tag && is_valid m.op

-- whether each message can
abbrev pub are_carried : ℕ → List Message → Bool
are_carried limit messages = list_all (is_carried limit) messages
