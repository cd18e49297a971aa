-- The queue of one member: what is held of it, and what is true of every queue.
use Rattle.std.specs.Prelude.{◌≡◌, ℕ, ◌+◌, ◌<◌, ◌≤◌, List, [], ◌∷◌, length, filter, nat_lt, count_by, All, slice_index_or, ◌==◌, if◌then◌else◌}
use Rattle.op_base.specs.Timestamp.{entry, zero_tag}
use Rattle.tag_window.specs.declared.held.Held.{Held}

-- a queue of a store of n members: whose it is, how many it has room for, and what it holds
pub record Line : Type 0 where
  pub n : ℕ
  pub origin : ℕ
  pub room : ℕ
  pub held : List Held

-- the numbers of what is held of a member follow one another
abbrev pub IsNumbered : ℕ → List Held → Type 0
IsNumbered x held = (i : ℕ) (h : Held) → i < length held → entry (slice_index_or held i h).tag x ≡ entry (slice_index_or held 0 h).tag x + i

-- what is true of the lines of all queues, with how much room they took and how many no-ops they count
pub record IsSound (line : Line) (capacity noops : ℕ) : Type 0 where
  pub member : line.origin < line.n
  pub small : line.room ≤ 65535
  pub reserved : line.room ≤ capacity
  pub within : length line.held ≤ line.room
  pub entries : All (λ h. length h.tag ≡ line.n) line.held
  pub numbered : IsNumbered line.origin line.held
  pub counted : noops ≡ count_by (λ h. h.noop) line.held

-- the timestamp that is held of a member with a number, all zeros where there is none
abbrev pub tag_held : ℕ → ℕ → List Held → ℕ → List ℕ
tag_held n x [] seq = zero_tag n
tag_held n x (h ∷ hs) seq = if entry h.tag x == seq then h.tag else tag_held n x hs seq

-- a queue without what is stable, where these are the stable counts
abbrev pub left_of : List ℕ → Line → Line
left_of stable q = record q { held = filter (λ h. nat_lt (entry stable q.origin) (entry h.tag q.origin)) q.held }
