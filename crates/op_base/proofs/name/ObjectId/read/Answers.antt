use Rattle.std.proofs.Common.{List, ℕ, subst}
use Rattle.std.specs.Prelude.{Result, IfErr, Ok, Err}
use Rattle.std.specs.Result.{IsErrAnd}
use Rattle.op_base.specs.Name.{key_fault, kind_of, kind_part, Refuses}
use Rattle.op_base.proofs.Names.{object_with-refused}
use Rattle.op_base.proofs.name.ObjectId.read.Goals as goal

-- what follows of an error from what is said of it
of_error : {T E : Type 0} (result : Result T E) (R P : E → Type 0) → IsErrAnd result R → ((e : E) → R e → P e) → IfErr result P
of_error (Ok x) R P h then = tt
of_error (Err e) R P h then = then e h

pub returns-in_err-key-clause-none : goal.returns-in_err-key-clause-none
returns-in_err-key-clause-none c =
    let P : List ℕ → Type 0 = λ key. Refuses (key_fault key) c.read-2.result in
    let refused = subst P c.parts.ensures.key c.read-2.ensures.refused in
    of_error c.from_residual-in_err-key.result _ _ c.from_residual-in_err-key.ensures.1 (λ fault same other. object_with-refused (kind_of (kind_part c.args.bytes.now)) _ c.read-2.result fault refused (cc) other)
