-- What a window holds: for each member the timestamps of its unstable messages, in the order of their numbers.
use Rattle.std.specs.Prelude.{◌≡◌, ℕ, ◌+◌, ◌-◌, ◌<◌, Bool, not, List, [], length, count_by, slice_index_or, if◌then◌else◌}
use Rattle.op_base.specs.Timestamp.{entry}
use Rattle.tag_window.specs.declared.held.Held.{Held}

-- the window of operations, and what is held of each member
pub record Window : Type 0 where
  pub w : ℕ
  pub held : List (List Held)

-- what is held of a member, the lowest number first
abbrev pub held_of : Window → ℕ → List Held
held_of window x = slice_index_or window.held x []

-- whether one that is held is a no-op, or whether it is an operation
abbrev pub is_of_kind : Bool → Held → Bool
is_of_kind noop h = if noop then h.noop else not h.noop

-- how many of the no-ops, or of the operations, of a member are held
abbrev pub held_count : Window → ℕ → Bool → ℕ
held_count window x noop = count_by (is_of_kind noop) (held_of window x)

-- a timestamp has the number behind the last that is held of a member
abbrev pub IsNextNumber : ℕ → List Held → List ℕ → Type 0
IsNextNumber x held tag = (last : Held) → 0 < length held → entry (slice_index_or held (length held - 1) last).tag x + 1 ≡ entry tag x
