use Rattle.std.proofs.Common.{◌≡◌, true, sym, ◌∙◌, arith}
use Rattle.std.proofs.lemmas.Bool.Decides.{nat_tests}
use Rattle.op_base.specs.Name.{is_short}
use Rattle.op_base.proofs.Names.{plain_has_no_fault}
use Rattle.op_base.proofs.name.value_fault.Goals as goal

pub returns-then-are_plain_bytes : goal.returns-then-are_plain_bytes
returns-then-are_plain_bytes c =
    let some = c.if-is_empty.false in
    let is_empty = c.is_empty.ensures in
    let few = c.if-bytes-gt-MOST_VALUE_BYTES.false in
    let short : is_short 4096 c.args.bytes.now ≡ true = grind (arith, nat_tests, some, is_empty, few) in
    sym (plain_has_no_fault c.args.bytes.now short (sym c.are_plain_bytes.ensures ∙ c.if-are_plain_bytes.true))
