use Rattle.std.proofs.Common.{nat_eq, ap, ◌∙◌}
use Rattle.std.specs.Ordering.{is_eq}
use Rattle.std.specs.Cmp.Lexicographic.{pointwise}
use Rattle.op_base.proofs.Padded.{keys_equal}
use Rattle.op_base.proofs.name.KeyPartialEq.eq.Goals as goal

pub returns : goal.returns
returns c = c.is_eq.ensures ∙ ap is_eq c.order_of.ensures ∙ keys_equal _ _ c.self.invariant c.other.invariant ∙ (λ i. pointwise nat_eq (c.self.view_is i) (c.other.view_is i))
