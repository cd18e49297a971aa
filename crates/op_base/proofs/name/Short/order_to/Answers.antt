use Rattle.std.proofs.Common.{◌∙◌}
use Rattle.op_base.proofs.Padded.{shorts_order}
use Rattle.op_base.proofs.name.Short.order_to.Goals as goal

pub returns : goal.returns
returns c = c.order_of.ensures ∙ shorts_order _ _ c.requires.kept c.requires.other
