use Rattle.std.proofs.Common.{refl}
use Rattle.std.specs.Fmt.{digits}
use Rattle.std.specs.Char.{encode_utf8}
use Rattle.std.specs.Str.{chars, is_utf8}
use Rattle.worked_lines.proofs.worked.the_higher_member_is_first.Goals as goal

pub returns : goal.returns
unfolding digits is_utf8 chars encode_utf8
returns c = refl
