use Rattle.std.proofs.Common.{ap, refl, sym, ◌∙◌}
use Rattle.op_base.specs.declared.message.Message.{Message}
use Rattle.op_base.specs.declared.operation.Op.TheVariants as op
use Rattle.op_base.specs.declared.operation.Op.{Op}
use Rattle.op_base.specs.declared.operation.Update.{Update}
use Rattle.op_base.proofs.Updates.{same_update}
use Rattle.world.proofs.offering.copy_with.Goals as goal

pub returns : goal.returns
returns c =
    let m = c.args.message.now in
    ap (λ (u : Update). let copy : Message = record { origin = m.origin; tag = m.tag; op = op.Update u } in copy) (same_update _ c.args.update.now refl c.requires.act)
    ∙ ap (λ (o : Op). let copy : Message = record { origin = m.origin; tag = m.tag; op = o } in copy) (sym c.requires.update)
