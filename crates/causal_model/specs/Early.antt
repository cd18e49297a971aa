-- Early messages: they stand in one list, by origin and then by number, at most one of an id.
use Rattle.std.specs.Prelude.{Bool, not, ◌||◌, ◌&&◌, ◌==◌, nat_lt, List, [], ◌∷◌, filter, if◌then◌else◌}
use Rattle.std.specs.List.{list_any}
use Rattle.op_base.specs.Message.{number}
use Rattle.op_base.specs.declared.message.Message.{Message}
use Rattle.op_base.specs.declared.tag.MessageId.{MessageId}
use Rattle.causal_model.specs.Order.{same_id}

-- whether a message stands before another: of a lower origin, or of the same with a lower number
abbrev pub stands_before : Message → Message → Bool
stands_before a b = nat_lt a.origin b.origin || ((a.origin == b.origin) && nat_lt (number a) (number b))

-- the early messages with one more, at its place
abbrev pub put_early : Message → List Message → List Message
put_early m [] = m ∷ []
put_early m (e ∷ early) = if stands_before m e then m ∷ e ∷ early else e ∷ put_early m early

-- whether a message of its id is early already
abbrev pub is_again : List Message → Message → Bool
is_again early m = list_any (same_id m) early

-- whether a message has an id
abbrev pub has_id : MessageId → Message → Bool
has_id id m = (id.origin == m.origin) && (id.seq == number m)

-- the early messages that aren't of an id
abbrev pub without : MessageId → List Message → List Message
without id early = filter (λ m. not (has_id id m)) early
