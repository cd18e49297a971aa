-- Stability: which messages of an epoch every member is known to have. These are the textbook's matrix of vectors,
-- computed from the messages that were delivered alone.
use Rattle.std.specs.Prelude.{ℕ, ◌+◌, ◌-◌, ◌*◌, Bool, true, false, not, ◌==◌, nat_le, min, List, [], ◌∷◌, map, filter, fold, length, if◌then◌else◌}
use Rattle.op_base.specs.Timestamp.{entry, zero_tag}
use Rattle.op_base.specs.Message.{number}
use Rattle.op_base.specs.declared.message.Message.{Message}
use Rattle.op_base.specs.declared.operation.Op.{Op}
use Rattle.op_base.specs.declared.operation.Op.TheVariants as op
use Rattle.causal_model.specs.Counts.{members, counts}

-- the timestamp of the last message of a member, all zeros where there is none
abbrev pub last_tag : ℕ → List Message → ℕ → List ℕ
last_tag n messages member = fold (λ last m. if m.origin == member then m.tag else last) (zero_tag n) messages

-- what member me knows that a member has: of itself the counts, of another the timestamp of its last message
abbrev pub known_vector : ℕ → ℕ → List Message → ℕ → List ℕ
known_vector n me messages member = if member == me then counts n messages else last_tag n messages member

-- the least of the numbers, and 0 where there is none
abbrev pub minimum : List ℕ → ℕ
minimum [] = 0
minimum (x ∷ []) = x
minimum (x ∷ y ∷ xs) = min x (minimum (y ∷ xs))

-- how many messages of an origin each member is known to have
abbrev pub stable_count : ℕ → ℕ → List Message → ℕ → ℕ
stable_count n me messages origin = minimum (map (λ member. entry (known_vector n me messages member) origin) (members n))

-- the stable counts, as a timestamp
abbrev pub stable_vector : ℕ → ℕ → List Message → List ℕ
stable_vector n me messages = map (stable_count n me messages) (members n)

-- whether a message is stable where these are the stable counts
abbrev pub is_stable : List ℕ → Message → Bool
is_stable stable m = nat_le (number m) (entry stable m.origin)

-- the messages that aren't stable, oldest first
abbrev pub unstable_messages : ℕ → ℕ → List Message → List Message
unstable_messages n me messages = filter (λ m. not (is_stable (stable_vector n me messages) m)) messages

-- those of a member
abbrev pub unstable_of : ℕ → ℕ → List Message → ℕ → List Message
unstable_of n me messages origin = filter (λ m. m.origin == origin) (unstable_messages n me messages)

-- whether a message carries an operation, and not the no-op
abbrev pub carries_operation : Op → Bool
carries_operation op.NoOp = false
carries_operation (op.Update u) = true

-- how many operations of a member are unstable
abbrev pub unstable_operations : ℕ → ℕ → List Message → ℕ → ℕ
unstable_operations n me messages origin = length (filter (λ m. carries_operation m.op) (unstable_of n me messages origin))

-- how many no-ops of a member are unstable
abbrev pub unstable_noops : ℕ → ℕ → List Message → ℕ → ℕ
unstable_noops n me messages origin = length (filter (λ m. not (carries_operation m.op)) (unstable_of n me messages origin))

-- the no-op window: how many no-ops of a member may be unstable, where w operations may
abbrev pub noop_window : ℕ → ℕ → ℕ
noop_window n w = 2 * (n - 1) * w + 1
