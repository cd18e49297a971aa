use Rattle.std.proofs.Common.{sym, ◌∙◌}
use Rattle.frame_codec.proofs.Names.{value_field_named}
use Rattle.frame_codec.proofs.fields.value_field.Goals as goal

pub returns-clause-tested : goal.returns-clause-tested
returns-clause-tested c =
    c.map.ensures.variant ∙ c.name_or.ensures.tested ∙ value_field_named c.args.version c.in-Some.text.now c.args.bytes.now c.read.result c.in-Some.ensures.whole c.in-Some.ensures.text (sym c.carries.ensures ∙ c.if-not-carries.false) c.read.ensures.valid c.read.ensures.refused
