use Rattle.std.specs.Prelude.{Ok, refl}
use Rattle.script_lang.specs.Fault.{◌>>=◌}
use Rattle.script_lang.specs.Names.{member_of, bytes_in}
use Rattle.script_lang.specs.Memory.{keeps}
use Rattle.script_lang.specs.declared.command.Command.TheVariants as command
use Rattle.script_lang.proofs.Memories.{behind, late_ample, late_then, bytes_late}
use Rattle.script_lang.proofs.command.raw_command.Goals as goal

pub returns-in_err-bytes-clause-ample : goal.returns-in_err-bytes-clause-ample
returns-in_err-bytes-clause-ample c =
    behind keeps (member_of c.args.n c.args.r.now) c.in_ok-r.r _ _ c.in_ok-r.ensures.member
    (late_ample keeps (bytes_in c.args.hex.now >>= λ bytes. Ok (command.Raw c.in_ok-r.r bytes)) _ (late_then keeps (bytes_in c.args.hex.now) (λ bytes. Ok (command.Raw c.in_ok-r.r bytes)) (bytes_late c.args.hex.now) (λ _. refl)))
