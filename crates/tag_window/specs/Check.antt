-- Why a message is crooked, told from what a window holds. The causes and their order are those of a crooked message; the
-- sender's last timestamp and the stable counts after the message are given.
use Rattle.std.specs.Prelude.{ℕ, ◌+◌, Bool, true, false, not, ◌&&◌, ◌||◌, ◌==◌, nat_lt, nat_le, List, [], ◌∷◌, length, map, Option, Some, None, Result, Ok, Err, if◌then◌else◌}
use Rattle.std.specs.Option.{option_map}
use Rattle.op_base.specs.Timestamp.{entry}
use Rattle.op_base.specs.declared.message.Message.{Message}
use Rattle.op_base.specs.declared.outcome.Crook.{Crook}
use Rattle.op_base.specs.declared.outcome.Crook.TheVariants.{Regress, Unclosed, Overrun, NoopOverrun}
use Rattle.causal_model.specs.Counts.{members}
use Rattle.causal_model.specs.Crook.{first_some, first_below}
use Rattle.causal_model.specs.Stability.{is_stable, noop_window}
use Rattle.tag_window.specs.Window.{Window, held_of, is_of_kind, held_count}
use Rattle.tag_window.specs.Queue.{tag_held}
use Rattle.tag_window.specs.History.{held_message}

-- the answer to a check: the cause, where there is one
abbrev pub verdict : Option Crook → Result (Unit {0}) Crook
verdict None = Ok tt
verdict (Some crook) = Err crook

-- the sender's last timestamp had more at some member
abbrev pub regress_in : ℕ → Message → List ℕ → Option Crook
regress_in n m last = option_map (λ x. Regress x (entry last x) (entry m.tag x)) (first_below n last m.tag)

-- why it is unclosed at a member, by the timestamp of the last message of that member that it has seen
abbrev pub unclosed_by : ℕ → Message → ℕ → List ℕ → Option Crook
unclosed_by n m x had = option_map (λ y. Unclosed x y (entry had y) (entry m.tag y)) (first_below n had m.tag)

-- the last message of member x that this one has seen had more at some member; none where the sender had seen that before
abbrev pub unclosed_in : ℕ → Window → Message → List ℕ → ℕ → Option Crook
unclosed_in n window m last x =
    if (x == m.origin) || nat_le (entry m.tag x) (entry last x) then None
    else unclosed_by n m x (tag_held n x (held_of window x) (entry m.tag x))

-- how many no-ops, or operations, the message adds to the unstable ones
abbrev pub added : Bool → List ℕ → Message → ℕ
added noop stable m = if is_of_kind noop (held_message m) && not (is_stable stable m) then 1 else 0

-- how many no-ops, or operations, of the sender are unstable after it
abbrev pub count_after : Bool → Window → List ℕ → Message → ℕ
count_after noop window stable m = held_count window m.origin noop + added noop stable m

-- more operations of the sender would be unstable than the window has
abbrev pub overrun_in : ℕ → Window → Message → List ℕ → Option Crook
overrun_in w window m stable = if nat_lt w (count_after false window stable m) then Some (Overrun (count_after false window stable m)) else None

-- more no-ops of the sender would be unstable than the no-op window has
abbrev pub noop_overrun_in : ℕ → Window → Message → List ℕ → Option Crook
noop_overrun_in z window m stable = if nat_lt z (count_after true window stable m) then Some (NoopOverrun (count_after true window stable m)) else None

-- the first of the four causes that applies, by a window w of n members
abbrev pub crook_by : ℕ → ℕ → Window → Message → List ℕ → List ℕ → Option Crook
crook_by n w window m last stable =
    first_some (regress_in n m last ∷ first_some (map (unclosed_in n window m last) (members n)) ∷ overrun_in w window m stable ∷ noop_overrun_in (noop_window n w) window m stable ∷ [])

-- the same by the window's own numbers
abbrev pub crook_in : Window → Message → List ℕ → List ℕ → Option Crook
crook_in window m last stable = crook_by (length window.held) window.w window m last stable
