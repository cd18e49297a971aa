-- An update is made with the fact that its kind has its act.
use mathlib.Core.HLevel.{is_prop→PathP}
use Rattle.std.proofs.Common.{◌≡◌, Bool, true, false, refl, ap}
use Rattle.std.specs.Prelude.{IsTrue, Some}
use Rattle.std.proofs.Math.Bool.{Bool-set}
use Rattle.std.proofs.lemmas.Bool.{false≢true}
use Rattle.op_base.specs.Operation.{has_act}
use Rattle.op_base.specs.Reading.{where_true}
use Rattle.op_base.specs.declared.operation.Update.{Update}

-- the fact may be any proof of it
pub where_true-given : {A : Type 0} (test : Bool) (make : IsTrue test → A) (fact : IsTrue test) → where_true test make ≡ Some (make fact)
where_true-given true make fact =
    ap (λ (p : IsTrue true). Some (make p)) (Bool-set true true refl fact)
where_true-given false make fact = absurd (false≢true fact)

-- two updates of one object and act are one
pub same_update : (u v : Update) → u.object ≡ v.object → u.act ≡ v.act → u ≡ v
same_update u v object act = λ i. record { object = object i; act = act i; of_kind = is_prop→PathP (λ j. IsTrue (has_act (object j).kind (act j))) (λ j. hlevel Bool-set) u.of_kind v.of_kind i }
