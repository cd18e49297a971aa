use Rattle.std.proofs.Common.{◌≡◌, take}
use Rattle.std.specs.List.{list_all}
use Rattle.op_base.specs.Name.{is_key_byte}
use Rattle.op_base.proofs.name.are_key_bytes.Given as goal

abbrev pub invariant-loop-b : goal.invariant-loop-b
invariant-loop-b l = l.all ≡ list_all is_key_byte (take l.b-index l.bytes)
