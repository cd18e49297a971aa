-- Crooked messages: deliverable ones that don't fit what this member delivered. They have seen less than a message that they
-- follow, or with them more would be unstable than a window has. With these four checks the order of messages is transitive
-- on every history, whatever bytes came. No message that was sent is crooked where no frame was forged; one forged frame can
-- make messages crooked that members sent by the rules. The checks are this project's own profile.
use Rattle.std.specs.Prelude.{ℕ, ◌&&◌, ◌||◌, ◌==◌, nat_lt, List, map, [], ◌∷◌, ◌++◌, Option, Some, None, if◌then◌else◌}
use Rattle.std.specs.Option.{option_map}
use Rattle.std.specs.List.{find}
use Rattle.op_base.specs.Timestamp.{entry, zero_tag}
use Rattle.op_base.specs.Message.{number}
use Rattle.op_base.specs.declared.message.Message.{Message}
use Rattle.op_base.specs.declared.outcome.Crook.{Crook}
use Rattle.op_base.specs.declared.outcome.Crook.TheVariants.{Regress, Unclosed, Overrun, NoopOverrun}
use Rattle.causal_model.specs.Counts.{members}
use Rattle.causal_model.specs.Stability.{last_tag, unstable_operations, unstable_noops, noop_window}

-- the first that is there
abbrev pub first_some : {A : Type 0} → List (Option A) → Option A
first_some [] = None
first_some (None ∷ others) = first_some others
first_some (Some x ∷ others) = Some x

-- the least member at which a timestamp is below another
abbrev pub first_below : ℕ → List ℕ → List ℕ → Option ℕ
first_below n had got = find (λ x. nat_lt (entry got x) (entry had x)) (members n)

-- the timestamp of the message of a member with this number, all zeros where there is none
abbrev pub tag_of : ℕ → List Message → ℕ → ℕ → List ℕ
tag_of n [] x seq = zero_tag n
tag_of n (m ∷ ms) x seq = if (m.origin == x) && (number m == seq) then m.tag else tag_of n ms x seq

-- the sender's last timestamp had more at some member
abbrev pub regress_of : ℕ → List Message → Message → Option Crook
regress_of n messages m =
    option_map (λ x. Regress x (entry (last_tag n messages m.origin) x) (entry m.tag x)) (first_below n (last_tag n messages m.origin) m.tag)

-- the last message of member x that this one has seen had more at some member
abbrev pub unclosed_at : ℕ → List Message → Message → ℕ → Option Crook
unclosed_at n messages m x =
    if (x == m.origin) || (entry m.tag x == 0) then None
    else option_map (λ y. Unclosed x y (entry (tag_of n messages x (entry m.tag x)) y) (entry m.tag y))
    (first_below n (tag_of n messages x (entry m.tag x)) m.tag)

-- the cause at the first member where there is one
abbrev pub unclosed_of : ℕ → List Message → Message → Option Crook
unclosed_of n messages m = first_some (map (unclosed_at n messages m) (members n))

-- after it, more operations of its sender would be unstable than the window has
abbrev pub overrun_of : ℕ → ℕ → ℕ → List Message → Message → Option Crook
overrun_of n w me messages m =
    if nat_lt w (unstable_operations n me (messages ++ m ∷ []) m.origin)
    then Some (Overrun (unstable_operations n me (messages ++ m ∷ []) m.origin)) else None

-- after it, more no-ops of its sender would be unstable than the no-op window has
abbrev pub noop_overrun_of : ℕ → ℕ → ℕ → List Message → Message → Option Crook
noop_overrun_of n w me messages m =
    if nat_lt (noop_window n w) (unstable_noops n me (messages ++ m ∷ []) m.origin)
    then Some (NoopOverrun (unstable_noops n me (messages ++ m ∷ []) m.origin)) else None

-- why a deliverable message is crooked after what member me delivered: the first of the four causes that applies
abbrev pub crook_of : ℕ → ℕ → ℕ → List Message → Message → Option Crook
crook_of n w me messages m =
    first_some (regress_of n messages m ∷ unclosed_of n messages m ∷ overrun_of n w me messages m ∷ noop_overrun_of n w me messages m ∷ [])
