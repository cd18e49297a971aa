use Rattle.std.proofs.Common.{◌≡◌, take}
use Rattle.std.specs.List.{list_all}
use Rattle.op_base.specs.Name.{is_plain_byte}
use Rattle.op_base.proofs.name.are_plain_bytes.Given as goal

abbrev pub invariant-loop-b : goal.invariant-loop-b
invariant-loop-b l = l.all ≡ list_all is_plain_byte (take l.b-index l.bytes)
