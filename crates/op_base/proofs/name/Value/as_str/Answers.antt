use Rattle.std.proofs.Common.{sym, subst}
use Rattle.std.specs.Str.{IsUtf8}
use Rattle.op_base.proofs.Texts.{value_is_utf8}
use Rattle.op_base.proofs.name.Value.as_str.Goals as goal

pub from_utf8_unchecked-requires : goal.from_utf8_unchecked-requires
from_utf8_unchecked-requires c = subst IsUtf8 (sym c.as_slice.ensures.bytes) (value_is_utf8 _ c.as_slice.ensures.valid)
