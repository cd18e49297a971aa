use Rattle.std.proofs.Common.{sym, ◌∙◌}
use Rattle.op_base.specs.Name.{is_value_byte}
use Rattle.op_base.proofs.Names.{no_place}
use Rattle.op_base.proofs.name.bad_value_place.Goals as goal

pub returns-then-are_value_bytes : goal.returns-then-are_value_bytes
returns-then-are_value_bytes c = sym (no_place is_value_byte c.args.bytes.now (sym c.are_value_bytes.ensures ∙ c.if-are_value_bytes.true))
