use Rattle.std.proofs.Common.{nat_cmp, ◌∙◌}
use Rattle.std.specs.Cmp.Lexicographic.{slice_cmp}
use Rattle.op_base.proofs.Padded.{keys_order}
use Rattle.op_base.proofs.name.KeyOrd.cmp.Goals as goal

pub returns : goal.returns
returns c = c.order_of.ensures ∙ keys_order _ _ c.self.invariant c.other.invariant ∙ (λ i. slice_cmp nat_cmp (c.self.view_is i) (c.other.view_is i))
