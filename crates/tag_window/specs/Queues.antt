-- The queues of all members.
use Rattle.std.specs.Prelude.{◌≡◌, ℕ, ◌+◌, ◌<◌, ◌≤◌, List, length, slice_index_or, All}
use Rattle.op_base.specs.Timestamp.{entry}
use Rattle.causal_model.specs.Stability.{noop_window}
use Rattle.tag_window.specs.Queue.{Line}

-- what is true of the queues of each window w with a no-op window z
pub record AreQueues (w z : ℕ) (lines : List Line) : Type 0 where
  pub some : 1 ≤ length lines
  pub few : length lines ≤ 16
  pub noops : z ≡ noop_window (length lines) w
  pub each : (x : ℕ) (line : Line) → x < length lines → ((slice_index_or lines x line).n ≡ length lines) × ((slice_index_or lines x line).origin ≡ x) × ((slice_index_or lines x line).room ≡ w + z)

-- the queues are those of the members, from the first on
abbrev pub AreOfMembers : List Line → Type 0
AreOfMembers lines = (x : ℕ) (line : Line) → x < length lines → ((slice_index_or lines x line).n ≡ length lines) × ((slice_index_or lines x line).origin ≡ x)

-- there is a number for each member that is not above any number held of it
pub record AreFirsts (firsts : List ℕ) (lines : List Line) : Type 0 where
  pub entries : length firsts ≡ length lines
  pub lowest : (x : ℕ) (line : Line) → x < length lines → All (λ h. entry firsts x ≤ entry h.tag x) (slice_index_or lines x line).held

-- what is true of the queues of each window, and of the numbers that it has beside them
pub record AreHeld (w z : ℕ) (firsts : List ℕ) (lines : List Line) : Type 0 where
  pub are_queues : AreQueues w z lines
  pub are_firsts : AreFirsts firsts lines
