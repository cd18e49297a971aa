use Rattle.std.proofs.Common.{◌≡◌, take}
use Rattle.std.specs.List.{fold}
use Rattle.polog.specs.Marks.{with_byte}
use Rattle.polog.proofs.marks.mark_of_text.Given as goal

abbrev pub invariant-loop-byte : goal.invariant-loop-byte
invariant-loop-byte l = l.mark ≡ fold with_byte 0 (take l.byte-index l.last)
