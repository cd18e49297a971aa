use Rattle.std.specs.Prelude.{Err}
use Rattle.frame_codec.proofs.Names.{key_field_named}
use Rattle.frame_codec.proofs.fields.key_field.Goals as goal

pub returns-in-Err-clause-tested : goal.returns-in-Err-clause-tested
returns-in-Err-clause-tested c =
    key_field_named c.args.version c.in-Some.text.now c.args.bytes.now (Err c.in-Err._fault) c.in-Some.ensures.whole c.in-Some.ensures.text c.in-Err.ensures.valid c.in-Err.ensures.refused c.in-Err.ensures.memory
