use Rattle.std.proofs.Common.{sym, ◌∙◌}
use Rattle.op_base.specs.Name.{is_key_byte}
use Rattle.op_base.proofs.Names.{no_place}
use Rattle.op_base.proofs.name.bad_key_place.Goals as goal

pub returns-then-are_key_bytes : goal.returns-then-are_key_bytes
returns-then-are_key_bytes c = sym (no_place is_key_byte c.args.bytes.now (sym c.are_key_bytes.ensures ∙ c.if-are_key_bytes.true))
