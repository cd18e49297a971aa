use Rattle.std.specs.Prelude.{map, Ok}
use Rattle.script_lang.specs.Fault.{◌>>=◌}
use Rattle.script_lang.specs.Names.{member_of}
use Rattle.script_lang.specs.Acts.{update_in}
use Rattle.script_lang.specs.Memory.{keeps, has_long_value}
use Rattle.script_lang.specs.declared.command.Command.TheVariants as command
use Rattle.script_lang.proofs.Memories.{behind, kept, takes_then}
use Rattle.script_lang.proofs.command.do_command.Goals as goal

pub returns-in_err-update-clause-ample : goal.returns-in_err-update-clause-ample
returns-in_err-update-clause-ample c =
    let wanted = update_in c.args.object.now c.args.operation.now (map (λ word. word.now) c.args.arguments.now) in
    behind keeps (member_of c.args.n c.args.r.now) c.in_ok-r.r _ _ c.in_ok-r.ensures.member
    (kept (λ update. has_long_value update.act) keeps wanted (wanted >>= λ update. Ok (command.Do c.in_ok-r.r update)) _ _ c.from_residual-in_err-update.ensures.1 c.in_err-update.ensures.ample
    (takes_then (λ update. has_long_value update.act) keeps wanted (λ update. Ok (command.Do c.in_ok-r.r update)) (λ _ long. long)))
