-- The numbers that C sees of what the calls answer.
use Rattle.std.specs.Prelude.{ℤ, pos, ◌+◌}
use Rattle.peer_c.specs.declared.outcome.Outcome.{Outcome}
use Rattle.peer_c.specs.declared.outcome.Outcome.TheVariants.{Done, NoMemory, NoPeer, HasPeer, NoRoom, BadNumbers, Busy, End, Quiet, Held, Kept, Old, Again, Far, NoFrame, BadText, BadFrame}

-- The number of an answer: 0 where it was done, 20 and more where a text is none, 40 and more where bytes are no frame.
abbrev pub code_of : Outcome → ℤ
code_of Done = pos 0
code_of NoMemory = pos 1
code_of NoPeer = pos 2
code_of HasPeer = pos 3
code_of NoRoom = pos 4
code_of BadNumbers = pos 5
code_of Busy = pos 6
code_of End = pos 7
code_of Quiet = pos 8
code_of Held = pos 9
code_of Kept = pos 10
code_of Old = pos 11
code_of Again = pos 12
code_of Far = pos 13
code_of NoFrame = pos 14
code_of (BadText fault) = pos (20 + fault)
code_of (BadFrame fault) = pos (40 + fault)
