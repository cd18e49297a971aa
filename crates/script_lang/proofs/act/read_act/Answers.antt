use Rattle.std.proofs.Common.{arith}
use Rattle.std.specs.Prelude.{map, get_or}
use Rattle.script_lang.specs.Names.{value_in}
use Rattle.script_lang.specs.Acts.{act_in}
use Rattle.script_lang.specs.Memory.{is_long, has_long_value}
use Rattle.script_lang.proofs.Memories.{kept, ins_takes}
use Rattle.script_lang.proofs.act.read_act.Goals as goal

pub returns-in_err-value-in-Ins-len2-clause-ample : goal.returns-in_err-value-in-Ins-len2-clause-ample
returns-in_err-value-in-Ins-len2-clause-ample c =
    let arguments = c.args.arguments.now in
    kept is_long has_long_value (value_in (get_or arguments 0 _).now) (act_in c.args.verb (map (λ word. word.now) arguments)) _ _ c.from_residual-in_err-value-in-Ins-len2.ensures.1 c.in_err-value-in-Ins-len2.ensures.ample
    (ins_takes (λ word. word.now) _ c.args.verb arguments (cc) (omega arith))
