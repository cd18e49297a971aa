use Rattle.std.proofs.Common.{ℕ, ◌+◌, ◌≤◌, List, [], ◌++◌, length}
use Rattle.store_program.specs.LiveFeeding.{IsTaken}
use Rattle.store_program.proofs.live_mode.take_piece.Given as goal

-- the input has come so far as to this rest of the piece
abbrev pub invariant-lines : goal.invariant-lines
invariant-lines l = record {
  few : l.feed.count + length l.rest ≤ l.initial.feed.count + length l.piece;
  taken : (bytes : List ℕ) → IsTaken l.initial.feed bytes [] → IsTaken l.feed (bytes ++ l.piece) l.rest;
}

abbrev pub decreases-lines : goal.decreases-lines
decreases-lines l = length l.rest
