use Rattle.std.proofs.Common.{sym, ap, ◌∙◌}
use Rattle.std.specs.Prelude.{map, ok_or}
use Rattle.op_base.specs.Operation.{has_act}
use Rattle.op_base.specs.Reading.{update_of}
use Rattle.op_base.proofs.Updates.{where_true-given}
use Rattle.script_lang.specs.Fault.{◌>>=◌}
use Rattle.script_lang.specs.Names.{object_in}
use Rattle.script_lang.specs.Acts.{verb_in, kind_act}
use Rattle.script_lang.specs.Memory.{has_long_value}
use Rattle.script_lang.specs.declared.fault.Fault.TheVariants as fault
use Rattle.script_lang.proofs.Memories.{behind, kept}
use Rattle.script_lang.proofs.Fits.{kind_has, update_takes}
use Rattle.script_lang.proofs.act.read_update.Goals as goal

pub returns-in_err-act-clause-ample : goal.returns-in_err-act-clause-ample
returns-in_err-act-clause-ample c =
    let object = c.in_ok-object.object in
    let verb = c.in_ok-verb.verb in
    let arguments = map (λ word. word.now) c.args.arguments.now in
    behind (λ update. has_long_value update.act) (object_in c.args.object.now) object _ _ c.in_ok-object.ensures
    (behind (λ update. has_long_value update.act) (verb_in c.args.verb.now) verb _ _ c.in_ok-verb.ensures
    (kept has_long_value (λ update. has_long_value update.act) (kind_act object.kind verb arguments) (kind_act object.kind verb arguments >>= λ act. ok_or (update_of object act) fault.Operation) _ _
    c.from_residual-in_err-act.ensures.1 c.in_err-act.ensures.ample (update_takes object verb arguments)))

pub invariant_of-result : goal.invariant_of-result
invariant_of-result c = record { of_kind = kind_has c.in_ok-object.object.kind c.in_ok-verb.verb (map (λ word. word.now) c.args.arguments.now) c.in_ok-act.act c.in_ok-act.ensures.act }

pub returns-clause-update : goal.returns-clause-update
returns-clause-update c =
    let object = c.in_ok-object.object in
    let verb = c.in_ok-verb.verb in
    let arguments = map (λ word. word.now) c.args.arguments.now in
    (λ i. sym c.in_ok-object.ensures i >>= λ object. sym c.in_ok-verb.ensures i >>= λ verb. kind_act object.kind verb arguments >>= λ act. ok_or (update_of object act) fault.Operation)
    ∙ ap (λ read. read >>= λ act. ok_or (update_of object act) fault.Operation) c.in_ok-act.ensures.act
    ∙ ap (λ made. ok_or made fault.Operation) (where_true-given (has_act object.kind c.in_ok-act.act) (λ fits. record { object = object; act = c.in_ok-act.act; of_kind = fits }) _)
