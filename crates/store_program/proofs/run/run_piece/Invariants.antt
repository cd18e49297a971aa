use Rattle.std.proofs.Common.{ℕ, List, ◌++◌, Option, length}
use Rattle.store_program.specs.Feeding.{IsFed}
use Rattle.store_program.proofs.Going.{InPiece}
use Rattle.store_program.proofs.run.run_piece.Given as goal

-- a script that had come so far is in the midst of the piece
abbrev pub invariant-lines : goal.invariant-lines
invariant-lines g l = (bytes : List ℕ) (old : Option (List ℕ)) (before : ℕ)
    → IsFed l.initial.feed bytes l.initial.out old (g.K.Sink.held l.initial.sink) before (g.K.Sink.faults l.initial.sink)
    → InPiece l.feed (bytes ++ l.piece) l.rest l.out old (g.K.Sink.held l.sink) before (g.K.Sink.faults l.sink)

abbrev pub decreases-lines : goal.decreases-lines
decreases-lines g l = length l.rest
