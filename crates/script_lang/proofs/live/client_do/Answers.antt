use Rattle.std.specs.Prelude.{map, Ok}
use Rattle.script_lang.specs.Fault.{◌>>=◌}
use Rattle.script_lang.specs.Names.{member_of}
use Rattle.script_lang.specs.Acts.{update_in}
use Rattle.script_lang.specs.Memory.{live_keeps, has_long_value}
use Rattle.script_lang.specs.declared.live.LiveCommand.TheVariants as live
use Rattle.script_lang.proofs.Memories.{behind, kept, takes_then}
use Rattle.script_lang.proofs.live.client_do.Goals as goal

pub returns-in_err-update-clause-ample : goal.returns-in_err-update-clause-ample
returns-in_err-update-clause-ample c =
    let wanted = update_in c.args.object.now c.args.operation.now (map (λ word. word.now) c.args.arguments.now) in
    behind live_keeps (member_of c.args.clients c.args.c.now) c.in_ok-c.c _ _ c.in_ok-c.ensures.member
    (kept (λ update. has_long_value update.act) live_keeps wanted (wanted >>= λ update. Ok (live.Do c.in_ok-c.c update)) _ _ c.from_residual-in_err-update.ensures.1 c.in_err-update.ensures.ample
    (takes_then (λ update. has_long_value update.act) live_keeps wanted (λ update. Ok (live.Do c.in_ok-c.c update)) (λ _ long. long)))
