-- What a source and a sink in memory are, call by call.
use Rattle.std.specs.Prelude.{ℕ, ◌+◌, ◌-◌, ◌^◌, min, Bool, ◌||◌, ◌==◌, nat_le, List, ◌++◌, length, drop}
use Rattle.std.specs.List.{list_any}

-- the number of the call after so many: they are counted from 1, and from 2 ^ 64 - 1 on, which is above each number
-- that can be told to fail, the count stands
abbrev pub number_after : ℕ → ℕ
number_after calls = min (calls + 1) (2 ^ 64 - 1)

-- whether the call of this number is one of those that are to fail
abbrev pub is_failing : List ℕ → ℕ → Bool
is_failing failing number = list_any (λ call. call == number) failing

-- the bytes left, the most that a call gives, which calls fail, how many were made, how many of those failed
pub record SourceState : Type 0 where
  pub left : List ℕ
  pub piece : ℕ
  pub failing : List ℕ
  pub calls : ℕ
  pub faults : ℕ

-- whether the next read fails
abbrev pub fails_next : SourceState → Bool
fails_next s = is_failing s.failing (number_after s.calls)

-- how many bytes the next read gives into a buffer of this length: a piece, or as many as fit or are left
abbrev pub given_next : SourceState → ℕ → ℕ
given_next s room = min (min s.piece room) (length s.left)

-- after a read that gave so many bytes
abbrev pub after_read : SourceState → ℕ → SourceState
after_read s count = record s { left = drop count s.left; calls = number_after s.calls }

-- after a read that failed
abbrev pub after_failed_read : SourceState → SourceState
after_failed_read s = record s { calls = number_after s.calls; faults = s.faults + 1 }

-- the bytes held, how many it has room for, the most that a call takes, which calls fail, how many were made,
-- how many of those failed
pub record SinkState : Type 0 where
  pub held : List ℕ
  pub room : ℕ
  pub piece : ℕ
  pub failing : List ℕ
  pub calls : ℕ
  pub faults : ℕ

-- whether the next write fails: its number says so, or the room is used up
abbrev pub refuses_next : SinkState → Bool
refuses_next s = is_failing s.failing (number_after s.calls) || nat_le s.room (length s.held)

-- how many of so many bytes the next write takes: a piece, or as many as there are or have room
abbrev pub taken_next : SinkState → ℕ → ℕ
taken_next s count = min (min s.piece count) (s.room - length s.held)

-- after a write that took these bytes
abbrev pub after_write : SinkState → List ℕ → SinkState
after_write s bytes = record s { held = s.held ++ bytes; calls = number_after s.calls }

-- after a write that failed
abbrev pub after_failed_write : SinkState → SinkState
after_failed_write s = record s { calls = number_after s.calls; faults = s.faults + 1 }
