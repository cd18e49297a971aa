use Rattle.std.proofs.Common.{arith}
use Rattle.frame_codec.proofs.Codes.{row_has}
use Rattle.frame_codec.proofs.Faults.{act_whole}
use Rattle.frame_codec.proofs.fields.operation.Goals as goal

pub invariant_of-result : goal.invariant_of-result
invariant_of-result c =
    record { of_kind = row_has c.args.version c.args.code _ c.in-Ok.field.1.now c.in_ok-act.act c.operation_of-kind.ensures (omega arith) c.requires (act_whole c.args.version _ c.in-Ok.field.1.now c.in_ok-act.ensures.fault) c.in_ok-act.ensures.act }
