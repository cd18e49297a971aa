use Rattle.std.proofs.Common.{◌≡◌, length, take}
use Rattle.frame_codec.specs.Fault.{numbers}
use Rattle.frame_codec.proofs.fields.timestamp.Given as goal

abbrev pub invariant-loop-x : goal.invariant-loop-x
invariant-loop-x l = (length l.tag ≡ l.n) × (take l.x l.tag ≡ numbers l.x l.bytes)
