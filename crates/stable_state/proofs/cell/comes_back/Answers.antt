use Rattle.std.proofs.Common.{◌≡◌, Option, List, ℕ, true, Some, ap, sym, ◌∙◌}
use Rattle.op_base.specs.declared.name.ObjectId.{ObjectId}
use Rattle.op_base.specs.declared.operation.Op.TheVariants as op
use Rattle.op_base.specs.declared.operation.Update.{Update}
use Rattle.causal_model.specs.Acts.{value_of}
use Rattle.causal_model.specs.CellSteps.{covers_place}
use Rattle.stable_state.specs.Picked.{is_set, is_place}
use Rattle.stable_state.proofs.Covers.{covers_own}
use Rattle.stable_state.proofs.cell.comes_back.Goals as goal

own : (u : Update) (v : List ℕ) → value_of u.act ≡ Some v → is_set u.object.kind ≡ true → (object : ObjectId) (value : Option (List ℕ)) → covers_place (op.Update u) object value ≡ is_place u.object (value_of u.act) object value
own u v named set object value = covers_own u v named set object value ∙ ap (λ own. is_place u.object own object value) (sym named)

pub returns-in-AwSet-Add : goal.returns-in-AwSet-Add
returns-in-AwSet-Add c _ = own c.args.update.now c.in-AwSet-Add.value (ap value_of c.in-AwSet-Add.is-1) (ap is_set c.in-AwSet-Add.is-0)

pub returns-in-RwSet-Add : goal.returns-in-RwSet-Add
returns-in-RwSet-Add c _ = own c.args.update.now c.in-RwSet-Add.value (ap value_of c.in-RwSet-Add.is-1) (ap is_set c.in-RwSet-Add.is-0)

pub returns-in-RwSet-Rmv : goal.returns-in-RwSet-Rmv
returns-in-RwSet-Rmv c _ = own c.args.update.now c.in-RwSet-Rmv.value (ap value_of c.in-RwSet-Rmv.is-1) (ap is_set c.in-RwSet-Rmv.is-0)
