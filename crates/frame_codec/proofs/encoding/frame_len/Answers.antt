use Rattle.std.proofs.Common.{arith, length-append}
use Rattle.std.specs.List.{flat_map}
use Rattle.frame_codec.specs.Grammar.{number_field, operation_fields}
use Rattle.frame_codec.specs.declared.version.Version.TheVariants.{Two}
use Rattle.frame_codec.proofs.Spelled.{length-number_fields}
use Rattle.frame_codec.proofs.encoding.frame_len.Goals as goal

pub returns : goal.returns
returns c = λ n epoch.
    let m = c.args.message.now in
    omega (arith, length-number_fields m.tag, length-append (flat_map number_field m.tag) (operation_fields Two m.op))
